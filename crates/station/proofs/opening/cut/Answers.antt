-- `station::opening::cut` meets its contract.
use native.Mathlib.Omega.{arith}
use native.Mathlib.Nat.{mod-eq_of_lt, lt_of_lt_of_le}
use mathlib.Core.Path.{sym}
use lib.Bits.{and_mask}
use lib.Pow.{pow_pos, pow_mono}
use Rattle.bits.specs.Widths.{widest}
use Rattle.station.proofs.opening.cut.Goals as goal

pub overflow_sub-result : goal.overflow_sub-result
overflow_sub-result c = rw c.power.ensures (pow_pos _)

pub returns-then-width-le-WIDEST : goal.returns-then-width-le-WIDEST
returns-then-width-le-WIDEST c = rw c.power.ensures (and_mask c.args.number c.args.width)

pub returns-else-width-le-WIDEST : goal.returns-else-width-le-WIDEST
returns-else-width-le-WIDEST c = sym (mod-eq_of_lt (lt_of_lt_of_le c.requires (pow_mono {i = widest} (omega arith))))
