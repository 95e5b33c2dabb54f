-- `rules::names::stands_at` meets its contract.
use mathlib.Core.Path.{◌∙◌}
use Rattle.rules.proofs.NameLaws.{begins-is, stands-taken, stands-left}
use Rattle.rules.proofs.names.stands_at.Goals as goal

pub returns-then-long : goal.returns-then-long
returns-then-long c = stands-taken _ _ _ _ c.if-long.true (c.starts_with.ensures.value ∙ begins-is _ _) c.name_of.ensures

pub returns-else-long : goal.returns-else-long
returns-else-long c = c.if-long.false ∙ stands-left _ _ _ _ c.if-long.false
