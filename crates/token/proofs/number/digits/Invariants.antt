-- `token::number::digits` meets its contract: wherever the loop stands, the value and the end of the digits are what
-- they are from the start, but for the size of a value that is too large. Assumes nothing.
use Prim.Native.Nat.{◌≤◌}
use mathlib.Core.Path.{◌≡◌}
use lib.ListN.{drop}
use Rattle.token.specs.Bytes.{run_at}
use Rattle.token.specs.Number.{is_digit, value_from, value_at, too_large}
use Rattle.token.proofs.Numbers.{cap}
use Rattle.token.proofs.number.digits.Given as goal

abbrev pub invariant-loop-i : goal.invariant-loop-i
invariant-loop-i l = (l.value ≤ too_large)
    × (cap (value_at l.radix l.text l.at) ≡ cap (value_from l.radix (drop l.i l.text) l.value))
    × (run_at (is_digit l.radix) l.text l.at ≡ run_at (is_digit l.radix) l.text l.i)
