-- `loader::whole::judge_text` meets its contract.
use mathlib.Core.Path.{refl, ap}
use mathlib.Core.List.{[]}
use Rattle.tables.specs.Words.{count_of}
use Rattle.loader.specs.Judge.{progress_of}
use Rattle.loader.proofs.LoadLaws.{blank-is, ready-start, text-judged}
use Rattle.loader.proofs.NextSteps.{ready-still}
use Rattle.loader.proofs.whole.judge_text.Goals as goal

pub mark_heading-requires : goal.mark_heading-requires
mark_heading-requires c = refl

pub declarations_of-all-requires : goal.declarations_of-all-requires
unfolding progress_of
declarations_of-all-requires c =
    let b = blank-is _ _ _ c.requires.variables_value in
    record { ready = ready-start _ _ _ _ b _ _ c.at_start-start.ensures c.parameters_of-headed.ensures c.requires.reads_value c.requires.writes_value; names = c.mark_heading.ensures _ _ (ap count_of b.registers) (ap count_of b.variables) }

pub returns : goal.returns
returns c = record {
  read = text-judged _ _ _ _ (blank-is _ _ _ c.requires.variables_value) _ _ c.at_start-start.ensures c.parameters_of-headed.ensures c.declarations_of-all.result _ _ c.declarations_of-all.ensures.read c.fixed_after-step.ensures refl;
  ready = ready-still [] c.declarations_of-all.result _ _ _ c.fixed_after-step.result refl c.declarations_of-all.ensures.noted.ready;
}
