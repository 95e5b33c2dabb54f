-- `abi::desfanuk_abandon` meets its contract: the station keeps its promise, and `tell` says in words what it answered.
use Rattle.tables.specs.View.{sound}
use Rattle.station.specs.declared.Operation.{Operation}
use Rattle.station.specs.Standing.{tables_of}
use Rattle.station.specs.Calls.{abandon}
use Rattle.station.specs.Promise.{lent}
use Rattle.abi.proofs.SmallLaws.{abandon-small}
use Rattle.abi.proofs.Telling.{tells, small_by}
use Rattle.abi.proofs.desfanuk_abandon.Goals as goal

pub tell-requires : goal.tell-requires
tell-requires c = small_by c.abandon-outcome.ensures (abandon-small (tables_of c.args.parameters.now c.args.registers.now c.args.variables.now) c.type_inv.registers (lent c.args.held.now c.args.marks.now c.operation_of-in_hand.result))

-- the call, as a function of the operation in hand
pub returns : goal.returns
returns c =
    tells (λ (operation : Operation). abandon sound (tables_of c.args.parameters.now c.args.registers.now c.args.variables.now) (lent c.args.held.now c.args.marks.now operation))
    c.operation_of-in_hand.ensures c.abandon-outcome.ensures c.tell.ensures
