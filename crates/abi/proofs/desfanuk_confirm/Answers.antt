-- `abi::desfanuk_confirm` meets its contract: the station keeps its promise, and `tell` says in words what it answered.
use Rattle.tables.specs.View.{sound}
use Rattle.station.specs.declared.Operation.{Operation}
use Rattle.station.specs.Standing.{tables_of}
use Rattle.station.specs.Calls.{confirm}
use Rattle.station.specs.Promise.{lent}
use Rattle.abi.proofs.SmallLaws.{confirm-small}
use Rattle.abi.proofs.Telling.{tells, small_by}
use Rattle.abi.proofs.desfanuk_confirm.Goals as goal

pub tell-requires : goal.tell-requires
tell-requires c = small_by c.confirm-outcome.ensures (confirm-small (tables_of c.args.parameters.now c.args.registers.now c.args.variables.now) c.type_inv.registers (lent c.args.held.now c.args.marks.now c.operation_of-in_hand.result) c.args.number)

-- the call, as a function of the operation in hand
pub returns : goal.returns
returns c =
    tells (λ (operation : Operation). confirm sound (tables_of c.args.parameters.now c.args.registers.now c.args.variables.now) (lent c.args.held.now c.args.marks.now operation) c.args.number)
    c.operation_of-in_hand.ensures c.confirm-outcome.ensures c.tell.ensures
