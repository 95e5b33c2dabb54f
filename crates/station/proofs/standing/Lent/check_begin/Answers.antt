-- `station::standing::Lent::check_begin` meets its contract.
use Rattle.station.specs.Standing.{tables_of}
use Rattle.station.proofs.Laws.{no_fault_lem}
use Rattle.station.proofs.standing.Lent.check_begin.Goals as goal

pub variable-requires-clause-sound : goal.variable-requires-clause-sound
variable-requires-clause-sound c =
    (no_fault_lem (tables_of c.args.self.now.parameters.now c.args.self.now.registers.now c.args.self.now.variables.now) _ _ _ c.check.ensures c.in_ok-check.was).sound
