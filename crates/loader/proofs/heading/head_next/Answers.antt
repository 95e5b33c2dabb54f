-- `loader::heading::head_next` meets its contract.
use mathlib.Core.List.{List}
use mathlib.Core.Path.{refl, sym, ◌∙◌}
use Prim.Native.Nat.{ℕ}
use Rattle.syntax.specs.Text.{head_with, taken, counted}
use Rattle.rules.specs.State.{state_of}
use Rattle.rules.specs.Parameter.{judge_device}
use Rattle.loader.specs.Judge.{judge, progress_of}
use Rattle.loader.proofs.LoadSteps.{moved_to_lem}
use Rattle.loader.proofs.NextSteps.{stopped_at, going_to}
use Rattle.loader.proofs.heading.head_next.Goals as goal

pub returns-then-is_err : goal.returns-then-is_err
unfolding head_with taken progress_of
returns-then-is_err c = λ (ps rs vs : List ℕ).
    let stop = (stopped_at _ (sym c.is_err.ensures.value ∙ c.if-is_err.true)).1 in
    rw (head_with, ← c.head_after-head.ensures, stop) (rw stop at (moved_to_lem c.args.loading c.head_after-head.result.step ps rs vs refl))

pub returns : goal.returns
unfolding head_with taken counted judge judge_device progress_of state_of
returns c = λ (ps rs vs : List ℕ). rw (head_with, ← c.head_after-head.ensures, (going_to _ (sym c.is_err.ensures.value ∙ c.if-is_err.false)).1)
