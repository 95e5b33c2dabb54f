use Rattle.std.proofs.Common.{refl}
use lib.Ieee.{nan_bits}
use Rattle.units.proofs.patterns.has_nan.Goals as goal

pub returns : goal.returns
unfolding nan_bits
returns c = refl
