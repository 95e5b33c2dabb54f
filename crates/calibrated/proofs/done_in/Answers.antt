use mathlib.Core.Path.{sym, ap, ◌∙◌}
use mir.Facts.{to_z-of_z}
use Rattle.std.proofs.Common.{Result, Float}
use Rattle.units.specs.declared.unconverted.Unconverted.{Unconverted}
use Rattle.calibrated.specs.declared.InUnits.TheVariants.{Stopped}
use Rattle.calibrated.specs.Readings.{read_as}
use Rattle.calibrated.proofs.ReadingLaws.{done-as}
use Rattle.calibrated.proofs.done_in.Goals as goal

pub returns-in-Ok : goal.returns-in-Ok
unfolding read_as
returns-in-Ok c = sym (ap (λ (a : Result Float Unconverted). read_as a c.args.accesses) c.in-Ok.is) ∙ done-as _ _ c.args.accesses c.args.calibration _ c.convert.ensures (to_z-of_z c.ranges.value)

pub returns-in-Err : goal.returns-in-Err
unfolding read_as
returns-in-Err c =
    ap Stopped c.number.ensures ∙ sym (ap (λ (a : Result Float Unconverted). read_as a c.args.accesses) c.in-Err.is)
    ∙ done-as _ _ c.args.accesses c.args.calibration _ c.convert.ensures (to_z-of_z c.ranges.value)
