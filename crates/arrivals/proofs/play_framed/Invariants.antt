-- `arrivals::play_framed` ends: a frame that is found begins inside the input and ends behind its beginning.
use Prim.Native.Nat.{◌-◌}
use lib.ListN.{length}
use Rattle.arrivals.proofs.play_framed.Given as goal

abbrev pub decreases-loop-frame : goal.decreases-loop-frame
decreases-loop-frame g l = length l.input - l.at
