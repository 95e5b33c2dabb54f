-- `tables::faults::variable_fault` meets its contract: each branch is a test of the definition.
use mathlib.Core.Path.{refl, ◌∙◌}
use Rattle.tables.proofs.Laws.{reads-eq, reads-ne}
use Rattle.tables.proofs.SoundLaws.{fault-says, fault-own}
use Rattle.tables.proofs.faults.variable_fault.Goals as goal

pub returns-then-own-ne0 : goal.returns-then-own-ne0
returns-then-own-ne0 c = c.own_fault-own.ensures ∙ fault-own _ _ _ (reads-ne c.own_fault-own.ensures c.if-own-ne0.true)

pub returns-then-free_part : goal.returns-then-free_part
returns-then-free_part c =
    rw c.if-free_part.true at
    (fault-says _ _ _ c.requires.registers_bound (reads-eq c.own_fault-own.ensures c.if-own-ne0.false) c.requires.mapped
    c.of_variable-read.ensures c.of_variable-write.ensures c.free_part.ensures c.free_part-else-own-ne0.ensures refl refl)

pub returns-then-trigger_apart : goal.returns-then-trigger_apart
returns-then-trigger_apart c =
    rw (c.if-free_part.false, c.if-trigger_apart.true) at
    (fault-says _ _ _ c.requires.registers_bound (reads-eq c.own_fault-own.ensures c.if-own-ne0.false) c.requires.mapped
    c.of_variable-read.ensures c.of_variable-write.ensures c.free_part.ensures c.free_part-else-own-ne0.ensures
    c.trigger_apart.ensures c.trigger_apart-else-free_part.ensures)

pub returns-else-trigger_apart : goal.returns-else-trigger_apart
returns-else-trigger_apart c =
    rw (c.if-free_part.false, c.if-trigger_apart.false) at
    (fault-says _ _ _ c.requires.registers_bound (reads-eq c.own_fault-own.ensures c.if-own-ne0.false) c.requires.mapped
    c.of_variable-read.ensures c.of_variable-write.ensures c.free_part.ensures c.free_part-else-own-ne0.ensures
    c.trigger_apart.ensures c.trigger_apart-else-free_part.ensures)
