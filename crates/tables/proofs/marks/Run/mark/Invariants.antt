-- `tables::marks::Run::mark` meets its contract: the loop invariant says that the work that remains gives what the
-- whole work gives.
use Rattle.tables.specs.Marks.{down_from, marks}
use mathlib.Core.Path.{◌≡◌}
use Rattle.tables.proofs.marks.Run.mark.Given as goal

abbrev pub invariant-loop-k : goal.invariant-loop-k
invariant-loop-k l = marks l.map (down_from l.fn.self.from l.k) ≡ marks l.initial.map (down_from l.fn.self.from l.fn.self.n)
