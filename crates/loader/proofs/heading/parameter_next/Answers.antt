-- `loader::heading::parameter_next` meets its contract.
use mathlib.Core.Path.{refl, sym, ◌∙◌}
use borrow.Author.Tests.{le-leb, lt-leb}
use Rattle.syntax.specs.Text.{parameter_with}
use Rattle.loader.specs.Judge.{progress_of}
use Rattle.loader.proofs.LoadSteps.{moved_to_lem}
use Rattle.loader.proofs.NextSteps.{stopped_at, going_to, parameter-stops, parameter-goes}
use Rattle.loader.proofs.heading.parameter_next.Goals as goal

pub returns-then-loading-ge16 : goal.returns-then-loading-ge16
unfolding parameter_with progress_of
returns-then-loading-ge16 c = moved_to_lem c.args.loading c.extra_after-step.result _ _ _ refl ∙ rw (le-leb _ _ c.if-loading-ge16.true, c.extra_after-step.ensures)

pub returns-then-is_err : goal.returns-then-is_err
returns-then-is_err c =
    parameter-stops _ c.args.loading _ _ _ (lt-leb _ _ c.if-loading-ge16.false) c.parameter_after-one.ensures.answered
    (stopped_at _ (sym c.is_err.ensures.value ∙ c.if-is_err.true)).1 refl

pub returns : goal.returns
returns c =
    parameter-goes _ _ _ _ _ (lt-leb _ _ c.if-loading-ge16.false) c.parameter_after-one.ensures.answered _ _ c.parameter_after-one.ensures.stored
    (going_to _ (sym c.is_err.ensures.value ∙ c.if-is_err.false)).1 c.judge_parameter-judging.ensures
