-- `replay::fields::carried` meets its contract. Assumes nothing.
use mathlib.Core.Path.{◌∙◌}
use Rattle.replay.proofs.FieldLaws.{carried-none, carried-some}
use Rattle.replay.proofs.fields.carried.Goals as goal

pub returns-in_err-number_of : goal.returns-in_err-number_of
returns-in_err-number_of c = c.from_residual.ensures ∙ carried-none _ c.in_err-number_of.ensures

pub returns : goal.returns
returns c = c.ok.ensures.value ∙ carried-some _ _ _ c.in_ok-number_of.ensures c.try_from.ensures
