-- `script::words::is` meets its contract. Assumes nothing.
use mathlib.Core.Path.{◌∙◌}
use Rattle.token.proofs.Same.{pointwise-same}
use Rattle.script.proofs.words.is.Goals as goal

pub returns : goal.returns
returns c = c.eq.ensures ∙ pointwise-same _ _
