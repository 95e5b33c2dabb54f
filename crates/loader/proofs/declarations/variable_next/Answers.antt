-- `loader::declarations::variable_next` meets its contract.
use native.Mathlib.Omega.{arith}
use mathlib.Core.List.{[]}
use mathlib.Core.Path.{refl, ◌∙◌}
use Rattle.syntax.specs.Text.{variable_with}
use Rattle.loader.specs.Judge.{progress_of}
use Rattle.loader.proofs.LoadSteps.{moved_to_lem}
use Rattle.loader.proofs.NextSteps.{ready-still}
use borrow.Author.Tests.{le-leb}
use Rattle.loader.proofs.KnownLaws.{known-moved}
use Rattle.loader.proofs.declarations.variable_next.Goals as goal

pub returns-then-loading-ge128 : goal.returns-then-loading-ge128
unfolding variable_with progress_of
returns-then-loading-ge128 c = record {
  read = moved_to_lem c.args.loading c.extra_after-step.result _ _ _ refl ∙ rw (le-leb _ _ c.if-loading-ge128.true, c.extra_after-step.ensures);
  noted = record { ready = ready-still [] c.args.loading _ _ _ c.extra_after-step.result refl c.requires.noted_2.ready; names = known-moved _ _ _ _ _ c.args.loading c.extra_after-step.result refl c.requires.noted_2.names };
}

pub variable_due-requires : goal.variable_due-requires
variable_due-requires c = record {
  variables_bound = omega (arith, c.if-loading-ge128.false);
  noted_2 = c.requires.noted_2;
  word_value = c.requires.word_value;
}
