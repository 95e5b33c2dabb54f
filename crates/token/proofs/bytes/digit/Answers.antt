-- `token::bytes::digit` meets its contract: std's values of the digits below 36 and those of document 001, which stop
-- at 16, are compared at each byte. Assumes nothing.
use Prim.Native.Nat.{ℕ, ◌≤◌, ◌<◌}
use mathlib.Core.Bool.{Bool}
use mathlib.Core.Path.{◌≡◌}
use native.Mathlib.Omega.{arith}
use lib.Dec.{eqb, eqb→eq}
use lib.ListN.{replicate}
use borrow.Author.Tests.{lt-ltb, le-ltb}
use Rattle.std.specs.Prelude.{Option, Some, None, SomeIff, min}
use Rattle.std.specs.Char.{digit_value}
use Rattle.token.specs.Bytes.{below, within}
use Rattle.token.specs.Number.{digit_of}
use Rattle.token.proofs.Table.{at}
use Rattle.token.proofs.bytes.digit.Goals as goal

right : ℕ → ℕ → Bool
right b x = eqb (min (digit_value b) 16) (digit_of b)

values : (b : ℕ) → b < 256 → min (digit_value b) 16 ≡ digit_of b
unfolding right digit_of within
values b h = eqb→eq _ _ (at right (replicate 256 0) tt b (omega arith))

told : (r : Option ℕ) (value digit radix : ℕ) → radix ≤ 16 → min value 16 ≡ digit → SomeIff r (value < radix) value → r ≡ below radix digit
told None value digit radix most same h = rw (le-ltb digit radix (omega (arith, h)))
told (Some x) value digit radix most same h =
    let is : x ≡ digit = omega (arith, h.0, h.1) in rw (is, lt-ltb digit radix (omega (arith, h.0)))

pub returns : goal.returns
returns c = told _ _ _ _ c.requires.1 (values c.args.b (omega arith)) (rw c.from.ensures at c.to_digit.ensures.value)
