-- `token::number::prefixed` meets its contract. Assumes nothing.
use Prim.Native.Nat.{ℕ}
use lib.Seq.{get_or-drop}
use Rattle.token.specs.Number.{digit_of, is_digit, prefixed}
use Rattle.token.proofs.Below.{is_below}
use Rattle.token.proofs.number.prefixed.Goals as goal

pub returns-then-pair_at : goal.returns-then-pair_at
unfolding prefixed is_digit
returns-then-pair_at c =
    rw (← c.if-pair_at.ensures, get_or-drop {A = ℕ} _ _ 2 0, ← c.byte_at.ensures, c.is_some.ensures, c.digit.ensures, is_below c.args.radix (digit_of c.byte_at.result))

pub returns-else-pair_at : goal.returns-else-pair_at
unfolding prefixed is_digit
returns-else-pair_at c = rw (← c.if-pair_at.ensures) c.if-pair_at.false
