-- `rules::names::is_entry` meets its contract: an entry that does not end alike is not recorded under the name.
use mathlib.Core.Path.{sym, ◌∙◌}
use Rattle.rules.proofs.names.is_entry.Goals as goal

pub returns-then-ends_alike : goal.returns-then-ends_alike
returns-then-ends_alike c = c.is_named.ensures

pub returns-else-ends_alike : goal.returns-else-ends_alike
returns-else-ends_alike c = c.if-ends_alike.false ∙ sym (c.ends_alike.ensures c.if-ends_alike.false)
