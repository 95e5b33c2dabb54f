use Rattle.units.specs.declared.Calibration.{Calibration}
use Rattle.tables.specs.View.{sound}
use Rattle.station.specs.declared.Operation.{Operation}
use Rattle.station.specs.Standing.{tables_of}
use Rattle.station.specs.Promise.{lent}
use Rattle.calibrated.specs.Readings.{begin_in_units}
use Rattle.abi.proofs.UnitLaws.{begin_in_units-small, tells-begun}
use Rattle.abi.proofs.Telling.{small_by}
use Rattle.abi.proofs.desfanuk_begin_read_in_units.Goals as goal

pub tell-requires : goal.tell-requires
tell-requires c = small_by c.begin_read_in_units-outcome.ensures (begin_in_units-small (tables_of c.args.parameters.now c.args.registers.now c.args.variables.now) c.type_inv.registers _ _ _)

pub returns : goal.returns
returns c = tells-begun (λ (o : Operation) (k : Calibration). begin_in_units sound (tables_of c.args.parameters.now c.args.registers.now c.args.variables.now) (lent c.args.held.now c.args.marks.now o) c.args.variable k) c.operation_of-in_hand.ensures c.calibration_of-calibration.ensures c.begin_read_in_units-outcome.ensures c.tell.ensures
