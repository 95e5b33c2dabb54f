-- `loader::known::mark_at` meets its contract.
use mathlib.Core.Path.{◌∙◌, ap}
use Rattle.loader.specs.Known.{mark_of}
use Rattle.loader.proofs.known.mark_at.Goals as goal

pub returns : goal.returns
returns c = c.mark_of.ensures ∙ ap mark_of c.name_of.ensures
