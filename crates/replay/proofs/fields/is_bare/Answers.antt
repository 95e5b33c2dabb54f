-- `replay::fields::is_bare` meets its contract. Assumes nothing.
use mathlib.Core.Path.{◌∙◌}
use Rattle.replay.proofs.FieldLaws.{bare-so}
use Rattle.replay.proofs.fields.is_bare.Goals as goal

pub returns : goal.returns
returns c = c.is_empty.ensures ∙ bare-so _ _ c.word.ensures
