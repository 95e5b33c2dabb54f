-- `tables::places::taken_before` meets its contract: a new slot says that the place is not taken.
use mathlib.Core.Bool.{not}
use mathlib.Core.Path.{ap, ◌∙◌}
use Rattle.tables.specs.View.{part_no}
use Rattle.tables.proofs.SlotLaws.{slot-new}
use Rattle.tables.proofs.places.taken_before.Goals as goal

pub returns-else-not-unmarked : goal.returns-else-not-unmarked
returns-else-not-unmarked c =
    let new = c.if-not-unmarked.false in
    ap not new ∙ slot-new c.args.registers.now (part_no c.args.part) c.args.i c.requires.slots_value (rw c.of_register.ensures at c.slot.ensures) c.unmarked.ensures new
