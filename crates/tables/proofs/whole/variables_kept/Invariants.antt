-- `tables::whole::variables_kept` meets its contract: the loop invariant says that the maps are those of the variables
-- passed, and that these keep their rules.
use Rattle.tables.specs.Every.{every}
use Rattle.tables.specs.Rules.{variable_fault}
use Rattle.tables.specs.Scan.{Mapped}
use lib.Dec.{eqb}
use mathlib.Core.Bool.{true}
use mathlib.Core.Path.{◌≡◌}
use Rattle.tables.proofs.whole.variables_kept.Given as goal

abbrev pub invariant-loop-v : goal.invariant-loop-v
invariant-loop-v l = Mapped l.variables l.v l.reads l.writes × (every l.v (λ u. eqb (variable_fault l.registers l.variables u) 0) ≡ true)
