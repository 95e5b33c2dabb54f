-- `replay::fields::power_on` meets its contract. Assumes nothing.
use Rattle.replay.specs.Fields.{power_on}
use Rattle.replay.proofs.fields.power_on.Goals as goal

pub returns : goal.returns
unfolding power_on
returns c = c.lay.ensures
