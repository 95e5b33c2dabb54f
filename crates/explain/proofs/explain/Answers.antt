-- `explain::explain` meets its contract.
use mathlib.Core.Path.{refl}
use Rattle.loader.specs.Load.{lent_as, tables_of, beginning}
use Rattle.explain.proofs.explain.Goals as goal

pub judge_all-judging-requires : goal.judge_all-judging-requires
unfolding lent_as tables_of beginning
judge_all-judging-requires g c = refl
