-- `replay::call::hold_of` meets its contract. Assumes nothing.
use mathlib.Core.Path.{◌∙◌}
use Rattle.replay.proofs.CallLaws.{hold-so}
use Rattle.replay.proofs.call.hold_of.Goals as goal

pub returns : goal.returns
returns c = c.hold_as.ensures ∙ hold-so _ _ _ c.word.ensures c.rest.ensures
