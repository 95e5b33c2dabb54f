-- `station::standing::Lent::is_allowed` meets its contract: a variable with an access due is there.
use mathlib.Core.Path.{◌∙◌, sym}
use Rattle.station.proofs.Laws.{due-variable}
use Rattle.station.proofs.standing.Lent.is_allowed.Goals as goal

pub variable-requires-clause-inside : goal.variable-requires-clause-inside
variable-requires-clause-inside c = due-variable _ _ _ _ (sym c.is_due.ensures ∙ c.if-is_due.true)

pub variable-requires-then-is_due-2-clause-inside : goal.variable-requires-then-is_due-2-clause-inside
variable-requires-then-is_due-2-clause-inside c = due-variable _ _ _ _ (sym c.is_due-in-Writing.ensures ∙ c.if-is_due-2.true)
