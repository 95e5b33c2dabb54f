use Rattle.units.specs.declared.Calibration.{Calibration}
use Rattle.tables.specs.View.{sound}
use Rattle.station.specs.declared.Operation.{Operation}
use Rattle.station.specs.Standing.{tables_of}
use Rattle.station.specs.Promise.{lent}
use Rattle.calibrated.specs.Readings.{confirm_in_units}
use Rattle.abi.proofs.UnitLaws.{confirm_in_units-small, tells-units, units-small_by}
use Rattle.abi.proofs.desfanuk_confirm_in_units.Goals as goal

pub tell_units-requires : goal.tell_units-requires
tell_units-requires c = units-small_by c.confirm_in_units-outcome.result c.confirm_in_units-outcome.ensures (confirm_in_units-small (tables_of c.args.parameters.now c.args.registers.now c.args.variables.now) c.type_inv.registers (lent c.args.held.now c.args.marks.now c.operation_of-in_hand.result) c.args.number c.calibration_of-calibration.result)

pub returns : goal.returns
returns c = tells-units (λ (o : Operation) (k : Calibration). confirm_in_units sound (tables_of c.args.parameters.now c.args.registers.now c.args.variables.now) (lent c.args.held.now c.args.marks.now o) c.args.number k) c.operation_of-in_hand.ensures c.calibration_of-calibration.ensures c.confirm_in_units-outcome.result c.confirm_in_units-outcome.ensures c.tell_units.ensures
