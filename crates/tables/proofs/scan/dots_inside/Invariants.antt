-- `tables::scan::dots_inside` meets its contract: the loop invariant says that what is gathered so far is the
-- definition at the counter.
use Rattle.bits.specs.Bits.{bit}
use Rattle.tables.specs.Every.{every}
use lib.Dec.{eqb}
use lib.ListN.{get_or}
use mathlib.Core.Bool.{not, ◌||◌}
use mathlib.Core.Path.{◌≡◌}
use Prim.Native.Nat.{◌+◌}
use Rattle.tables.proofs.scan.dots_inside.Given as goal

abbrev pub invariant-loop-b : goal.invariant-loop-b
invariant-loop-b l = l.ok ≡ every l.b (λ k. not (bit k l.dots) || not (eqb (get_or l.map (l.from + k) 0) 0))
