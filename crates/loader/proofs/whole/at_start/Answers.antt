-- `loader::whole::at_start` meets its contract.
use mathlib.Core.Path.{refl}
use Rattle.loader.specs.Judge.{at_start}
use Rattle.loader.proofs.whole.at_start.Goals as goal

pub returns : goal.returns
unfolding at_start
returns c = refl
