use mathlib.Core.Path.{◌≡◌}
use mathlib.Core.Bool.{false, not, ◌&&◌}
use Rattle.tables.specs.View.{sound}
use Rattle.station.specs.Standing.{tables_of}
use Rattle.calibrated.proofs.ReadingLaws.{confirmed-met, write-refused}
use Rattle.calibrated.proofs.confirm_in_units.Goals as goal
use Rattle.calibrated.proofs.confirm_in_units.Goals.{else-is_write-via-then-is_write+else-not-units, else-is_write-via-else-is_write}

pub returns-then-not-units : goal.returns-then-not-units
returns-then-not-units c = write-refused sound (tables_of c.args.parameters.now c.args.registers.now c.args.variables.now) _ _ c.args.number c.args.calibration c.args.operation c.is_write.ensures c.units_for-units.ensures (rw (c.if-is_write.true, c.if-not-units.true)) c.refuse_units.ensures

pub returns : goal.returns
returns c =
    let tested : (c.is_write.result && not c.units_for-units.result) ≡ false =
    elim c.else-is_write.branch [
      | else-is_write-via-then-is_write+else-not-units w ↦ rw (w.if-is_write.true, w.if-not-units.false)
      | else-is_write-via-else-is_write w ↦ rw w.if-is_write.false
    ] in
    confirmed-met sound (tables_of c.args.parameters.now c.args.registers.now c.args.variables.now) _ _ _ c.args.calibration c.args.operation c.is_write.ensures c.units_for-units.ensures tested c.confirm-outcome.ensures c.told_for.ensures
