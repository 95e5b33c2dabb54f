-- `units::is_usable` meets its contract. Assumes nothing.
use Rattle.std.proofs.Common.{ap₂, ◌∙◌, ◌&&◌}
use Rattle.units.specs.Units.{is_usable}
use Rattle.units.proofs.UnitLaws.{finite-is}
use Rattle.units.proofs.is_usable.Goals as goal

pub returns : goal.returns
unfolding is_usable
returns c = ap₂ ◌&&◌ (c.is_finite.ensures.value ∙ finite-is _) (c.is_finite-2.ensures.value ∙ finite-is _)
