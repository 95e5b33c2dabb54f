-- `replay::call::calibrated_of` meets its contract. Assumes nothing.
use mathlib.Core.Path.{refl, ap, ◌∙◌}
use Rattle.std.specs.Prelude.{Some, option_and_then}
use Rattle.units.specs.declared.Calibration.{Calibration}
use Rattle.script.specs.Patterns.{pattern_of}
use Rattle.replay.specs.declared.call.Call.TheVariants.{Station}
use Rattle.replay.specs.declared.call.Request.TheVariants.{Calibrated}
use Rattle.replay.specs.Calls.{calibrating}
use Rattle.replay.proofs.CallLaws.{calibrated-so}
use Rattle.replay.proofs.call.calibrated_of.Goals as goal

pub returns-in_err-variable : goal.returns-in_err-variable
unfolding calibrating
returns-in_err-variable c =
    c.from_residual.ensures ∙ calibrated-so _ _ _ c.word.ensures refl _ _ refl refl _ _ _ c.in_err-variable.ensures refl refl

pub returns-in_err-gain : goal.returns-in_err-gain
unfolding calibrating
returns-in_err-gain c =
    c.from_residual-in_err-gain.ensures
    ∙ calibrated-so _ _ _ c.word.ensures c.rest-patterns.ensures _ _ c.word-2.ensures refl _ _ _ c.in_ok-variable.ensures c.in_err-gain.ensures refl

pub returns-in_err-only_word : goal.returns-in_err-only_word
unfolding calibrating
returns-in_err-only_word c =
    c.from_residual-in_err-only_word.ensures
    ∙ calibrated-so _ _ _ c.word.ensures c.rest-patterns.ensures _ _ c.word-2.ensures c.rest.ensures _ _ _ c.in_ok-variable.ensures c.in_ok-gain.ensures (ap (option_and_then pattern_of) c.in_err-only_word.ensures)

pub returns-in_err-offset : goal.returns-in_err-offset
unfolding calibrating
returns-in_err-offset c =
    c.from_residual-in_err-offset.ensures
    ∙ calibrated-so _ _ _ c.word.ensures c.rest-patterns.ensures _ _ c.word-2.ensures c.rest.ensures _ _ _ c.in_ok-variable.ensures c.in_ok-gain.ensures (c.in_err-offset.ensures ∙ ap (option_and_then pattern_of) c.in_ok-only_word.ensures)

pub returns : goal.returns
unfolding calibrating
returns c =
    ap (λ (k : Calibration). Some (Station (Calibrated c.in_ok-variable.variable k))) c.calibration_of-calibration.ensures
    ∙ calibrated-so _ _ _ c.word.ensures c.rest-patterns.ensures _ _ c.word-2.ensures c.rest.ensures _ _ _ c.in_ok-variable.ensures c.in_ok-gain.ensures (c.in_ok-offset.ensures ∙ ap (option_and_then pattern_of) c.in_ok-only_word.ensures)
