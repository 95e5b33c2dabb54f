-- `tables::registers::register_shape` meets its contract: a width that a register may have is at most the widest.
use Rattle.bits.proofs.WidthLaws.{width-most}
use borrow.Author.Rules.{rules}
use mathlib.Core.Path.{sym, ◌∙◌}
use Rattle.tables.proofs.registers.register_shape.Goals as goal

pub register_part_shape-requires : goal.register_part_shape-requires
register_part_shape-requires c = (search rules, width-most _ (sym c.is_width.ensures ∙ c.if-not-is_width.false))

pub register_part_shape-requires-then-register_part_shape : goal.register_part_shape-requires-then-register_part_shape
register_part_shape-requires-then-register_part_shape c = (search rules, width-most _ (sym c.is_width.ensures ∙ c.if-not-is_width.false))
