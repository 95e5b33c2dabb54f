-- `loader::declarations::register_next` meets its contract.
use mathlib.Core.Path.{refl, sym, ◌∙◌}
use borrow.Author.Tests.{le-leb, lt-leb}
use Rattle.syntax.specs.Text.{register_with}
use Rattle.loader.specs.Judge.{progress_of}
use Rattle.loader.proofs.LoadSteps.{moved_to_lem}
use Rattle.loader.proofs.NextSteps.{stopped_at, going_to, register-stops, register-goes}
use Rattle.loader.proofs.KnownLaws.{known-moved}
use Rattle.loader.proofs.declarations.register_next.Goals as goal

pub returns-then-loading-ge64 : goal.returns-then-loading-ge64
unfolding register_with progress_of
returns-then-loading-ge64 c = record {
  read = moved_to_lem c.args.loading c.extra_after-step.result _ _ _ refl ∙ rw (le-leb _ _ c.if-loading-ge64.true, c.extra_after-step.ensures);
  names = known-moved _ _ _ _ _ c.args.loading c.extra_after-step.result refl c.requires.known;
}

pub returns-then-is_err : goal.returns-then-is_err
returns-then-is_err c = record {
  read = register-stops _ c.args.loading _ _ _ (lt-leb _ _ c.if-loading-ge64.false) (c.register_behind-one.ensures _ c.requires.word_value) c.fixed_after-step.ensures
      (stopped_at _ (sym c.is_err.ensures.value ∙ c.if-is_err.true)).1 refl;
  names = known-moved _ _ _ _ _ c.args.loading c.fixed_after-step.result refl c.requires.known;
}

pub register_judged-judging-requires : goal.register_judged-judging-requires
register_judged-judging-requires c = c.requires.known

pub returns : goal.returns
returns c = record {
  read = register-goes _ _ _ _ _ (lt-leb _ _ c.if-loading-ge64.false) (c.register_behind-one.ensures _ c.requires.word_value) c.fixed_after-step.ensures _ _
      (going_to _ (sym c.is_err.ensures.value ∙ c.if-is_err.false)).1 c.register_judged-judging.ensures.judged;
  names = c.register_judged-judging.ensures.names;
}
