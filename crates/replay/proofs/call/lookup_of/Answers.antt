-- `replay::call::lookup_of` meets its contract. Assumes nothing.
use mathlib.Core.Path.{sym, ◌∙◌}
use Rattle.replay.proofs.CallLaws.{looks-bare, looks_on}
use Rattle.replay.proofs.call.lookup_of.Goals as goal

pub returns-then-is_bare : goal.returns-then-is_bare
returns-then-is_bare c = looks-bare _ (sym c.is_bare.ensures ∙ c.if-is_bare.true)

pub returns-else-is_bare : goal.returns-else-is_bare
returns-else-is_bare c = c.bare.ensures ∙ looks_on _ _ c.rest.ensures (sym c.is_bare.ensures ∙ c.if-is_bare.false)
