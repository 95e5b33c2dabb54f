-- `loader::whole::is_short` meets its contract.
use Rattle.std.proofs.lemmas.Grind.{common_steps}
use Rattle.std.proofs.Common.{arith}
use Rattle.loader.specs.Load.{is_short, lent_as}
use Rattle.loader.proofs.whole.is_short.Goals as goal

pub returns-then-registers-lt961 : goal.returns-then-registers-lt961
unfolding is_short lent_as
returns-then-registers-lt961 c = grind (arith, common_steps)

pub returns-else-registers-lt961 : goal.returns-else-registers-lt961
unfolding is_short lent_as
returns-else-registers-lt961 c = grind (arith, common_steps)
