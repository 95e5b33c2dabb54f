-- `replay::call::held_of` meets its contract. Assumes nothing.
use mathlib.Core.Path.{refl, ap, ◌∙◌}
use Rattle.std.specs.Prelude.{Some, option_and_then}
use Rattle.station.specs.declared.Operation.{Operation}
use Rattle.replay.specs.declared.call.Call.TheVariants.{Hold}
use Rattle.replay.specs.Fields.{carried_of}
use Rattle.replay.specs.Calls.{held}
use Rattle.replay.proofs.CallLaws.{held-so}
use Rattle.replay.proofs.call.held_of.Goals as goal

pub returns-in_err-variable : goal.returns-in_err-variable
unfolding held
returns-in_err-variable c =
    c.from_residual.ensures ∙ held-so _ _ _ c.word.ensures refl _ _ _ refl refl _ _ _ c.in_err-variable.ensures refl refl

pub returns-in_err-step : goal.returns-in_err-step
unfolding held
returns-in_err-step c =
    c.from_residual-in_err-step.ensures
    ∙ held-so _ _ _ c.word.ensures c.rest-second.ensures _ _ _ c.word-2.ensures refl _ _ _ c.in_ok-variable.ensures c.in_err-step.ensures refl

pub returns-in_err-only_word : goal.returns-in_err-only_word
unfolding held
returns-in_err-only_word c =
    c.from_residual-in_err-only_word.ensures
    ∙ held-so _ _ _ c.word.ensures c.rest-second.ensures _ _ _ c.word-2.ensures c.rest.ensures _ _ _ c.in_ok-variable.ensures c.in_ok-step.ensures (ap (option_and_then carried_of) c.in_err-only_word.ensures)

pub returns-in_err-pattern : goal.returns-in_err-pattern
unfolding held
returns-in_err-pattern c =
    c.from_residual-in_err-pattern.ensures
    ∙ held-so _ _ _ c.word.ensures c.rest-second.ensures _ _ _ c.word-2.ensures c.rest.ensures _ _ _ c.in_ok-variable.ensures c.in_ok-step.ensures (c.in_err-pattern.ensures ∙ ap (option_and_then carried_of) c.in_ok-only_word.ensures)

pub returns : goal.returns
unfolding held
returns c =
    ap (λ (o : Operation). Some (Hold o)) c.in_hand.ensures
    ∙ held-so _ _ _ c.word.ensures c.rest-second.ensures _ _ _ c.word-2.ensures c.rest.ensures _ _ _ c.in_ok-variable.ensures c.in_ok-step.ensures (c.in_ok-pattern.ensures ∙ ap (option_and_then carried_of) c.in_ok-only_word.ensures)
