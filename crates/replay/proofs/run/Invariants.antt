-- `replay::run` ends.
use Prim.Native.Nat.{◌-◌}
use lib.ListN.{length}
use Rattle.replay.proofs.run.Given as goal

abbrev pub decreases-loop-at : goal.decreases-loop-at
decreases-loop-at g l = length l.input - l.at
