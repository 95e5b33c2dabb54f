-- `arrivals::run` ends: each turn takes a piece or a line.
use Prim.Native.Nat.{◌-◌}
use lib.ListN.{length}
use Rattle.arrivals.proofs.run.Given as goal

abbrev pub decreases-loop-at : goal.decreases-loop-at
decreases-loop-at g l = length l.calls - l.at
