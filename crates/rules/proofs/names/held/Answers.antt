-- `rules::names::held` meets its contract.
use mathlib.Core.Path.{◌∙◌}
use Rattle.rules.proofs.NameLaws.{held-some}
use Rattle.rules.proofs.names.held.Goals as goal

pub returns : goal.returns
returns c = held-some _ _ c.word.ensures (c.min.ensures ∙ rw c.saturating_sub.ensures)
