-- `tables::places::registers_kept` meets its contract: the loop invariant says that the slots are those of the
-- registers passed, and what was gathered of these.
use mathlib.Core.Bool.{true}
use mathlib.Core.Path.{◌≡◌}
use lib.Dec.{eqb}
use Rattle.tables.specs.Every.{every}
use Rattle.tables.specs.Rules.{register_fault}
use Rattle.tables.specs.Scan.{slot_map}
use Rattle.tables.proofs.places.registers_kept.Given as goal

abbrev pub invariant-loop-i : goal.invariant-loop-i
invariant-loop-i l = (l.reads ≡ slot_map l.registers 0 l.i) × (l.writes ≡ slot_map l.registers 1 l.i) × (every l.i (λ k. eqb (register_fault l.parameters l.registers k) 0) ≡ true)
