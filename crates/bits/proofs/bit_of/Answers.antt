-- `bits::bit_of` meets its contract.
use mathlib.Core.Path.{sym, ◌∙◌}
use borrow.Author.Rules.{rules}
use borrow.Author.Tests.{le-ltb}
use Rattle.bits.specs.Bits.{bit}
use Rattle.bits.proofs.BitLaws.{bit-over}
use Rattle.bits.proofs.bit_of.Goals as goal

pub returns-then-b-lt64 : goal.returns-then-b-lt64
unfolding bit
returns-then-b-lt64 c = search rules

pub returns-else-b-lt64 : goal.returns-else-b-lt64
returns-else-b-lt64 c = le-ltb _ _ c.if-b-lt64.false ∙ sym (bit-over 64 c.args.b c.args.number c.ranges.number.fits c.if-b-lt64.false)
