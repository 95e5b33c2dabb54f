-- `tables::registers::register_fault` meets its contract: the rules of a register, with what was found of its places.
use Rattle.tables.proofs.SlotLaws.{fault-told}
use Rattle.tables.proofs.registers.register_fault.Goals as goal

pub returns : goal.returns
returns c = let x = c.args in
    fault-told x.parameters.now x.registers.now x.i c.place_taken.ensures c.place_taken-2.ensures c.fault_by.ensures
