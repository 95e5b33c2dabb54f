-- `loader::declarations::variable_due` meets its contract.
use mathlib.Core.List.{[]}
use mathlib.Core.Path.{refl, sym, subst, ◌∙◌}
use borrow.Author.Tests.{lt-leb}
use Rattle.rules.specs.State.{state_of}
use Rattle.loader.specs.Judge.{progress_of}
use Rattle.loader.proofs.PieceCounts.{WellRead, well-read}
use Rattle.loader.proofs.VariableReady.{judged-asks}
use Rattle.loader.proofs.NextSteps.{stopped_at, going_to, variable-stops, variable-goes, variable-ready, ready-still}
use Rattle.loader.proofs.KnownLaws.{known-moved, known-still}
use Rattle.loader.proofs.declarations.variable_due.Goals as goal

pub returns-then-is_err : goal.returns-then-is_err
unfolding progress_of
returns-then-is_err c =
    let e = c.variable_behind-one.ensures _ c.requires.word_value in
    record {
      read = variable-stops _ c.args.loading _ _ _ (lt-leb _ _ c.requires.variables_bound) e.0 c.fixed_after-step.ensures (stopped_at _ (sym c.is_err.ensures.value ∙ c.if-is_err.true)).1 refl;
      noted = record { ready = ready-still [] c.args.loading _ _ _ c.fixed_after-step.result refl c.requires.noted_2.ready; names = known-moved _ _ _ _ _ c.args.loading c.fixed_after-step.result refl c.requires.noted_2.names };
    }

pub variable_judged-judging-requires : goal.variable_judged-judging-requires
unfolding progress_of state_of
variable_judged-judging-requires c =
    let e = c.variable_behind-one.ensures _ c.requires.word_value in
    record {
      judgeable = judged-asks _ c.requires.noted_2.ready _ (lt-leb _ _ c.requires.variables_bound) (subst WellRead (sym e.0) (well-read _ _ _ _));
      known = c.requires.noted_2.names;
    }

pub returns : goal.returns
unfolding progress_of
returns c =
    let e = c.variable_behind-one.ensures _ c.requires.word_value in
    let l = lt-leb _ _ c.requires.variables_bound in
    let f = c.fixed_after-step.ensures in
    let g = (going_to _ (sym c.is_err.ensures.value ∙ c.if-is_err.false)).1 in
    let j = c.variable_judged-judging.ensures in
    record {
      read = variable-goes _ _ _ _ _ l e.0 f _ _ e.1 e.2 g j.judged refl;
      noted = record { ready = variable-ready _ _ _ _ _ l e.0 f _ _ e.1 e.2 g j.judged refl c.requires.noted_2.ready j.mapped; names = known-still _ _ _ _ _ refl j.names };
    }
