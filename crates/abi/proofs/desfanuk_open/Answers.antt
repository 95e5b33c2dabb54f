-- `abi::desfanuk_open` meets its contract: the station keeps its promise, and `tell` says in words what it answered.
use Rattle.tables.specs.View.{sound}
use Rattle.station.specs.declared.Operation.{Operation}
use Rattle.station.specs.Standing.{tables_of}
use Rattle.station.specs.Calls.{opening}
use Rattle.station.specs.Promise.{lent}
use Rattle.abi.proofs.SmallLaws.{opening-small}
use Rattle.abi.proofs.Telling.{tells, small_by}
use Rattle.abi.proofs.desfanuk_open.Goals as goal

pub tell-requires : goal.tell-requires
tell-requires c = small_by c.open-outcome.ensures (opening-small (tables_of c.args.parameters.now c.args.registers.now c.args.variables.now) c.type_inv.registers c.args.power.now (lent c.args.held.now c.args.marks.now c.operation_of-in_hand.result))

-- the call, as a function of the operation in hand
pub returns : goal.returns
returns c =
    tells (λ (operation : Operation). opening sound (tables_of c.args.parameters.now c.args.registers.now c.args.variables.now) c.args.power.now (lent c.args.held.now c.args.marks.now operation))
    c.operation_of-in_hand.ensures c.open-outcome.ensures c.tell.ensures
