-- `token::bytes::is_sign_byte` meets its contract: its tests are those of the signs, computed at each byte. Assumes
-- nothing.
use mathlib.Core.Bool.{Bool, ◌||◌, beq}
use Prim.Native.Nat.{ℕ}
use native.Mathlib.Omega.{arith}
use lib.Dec.{eqb}
use lib.ListN.{replicate}
use Rattle.token.specs.Bytes.{within, one_of}
use Rattle.token.specs.Sign.{is_sign_byte}
use Rattle.token.proofs.Bools.{beq→eq}
use Rattle.token.proofs.Table.{at}
use Rattle.token.proofs.bytes.is_sign_byte.Goals as goal

-- the tests, which antt computes at each byte
tested : ℕ → Bool
tested b = within 40 47 b || within 58 62 b || eqb b 64 || eqb b 91 || eqb b 93 || eqb b 123 || eqb b 125 || eqb b 35 || eqb b 37 || eqb b 33

right : ℕ → ℕ → Bool
right b x = beq (tested b) (is_sign_byte b)

pub returns : goal.returns
unfolding right tested is_sign_byte one_of within
returns c = rw (c.within-middle.ensures, c.within-late.ensures) (beq→eq _ _ (at right (replicate 256 0) tt c.args.b (omega arith)))
