-- `tokens::show_tokens` ends: each token that is not the last brings the reader forward.
use Prim.Native.Nat.{◌-◌}
use lib.ListN.{length}
use Rattle.tokens.proofs.show_tokens.Given as goal

abbrev pub decreases-loop-out : goal.decreases-loop-out
decreases-loop-out g l = length l.text - l.at
