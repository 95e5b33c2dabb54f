-- `frames::space` meets its contract. Assumes nothing.
use Prim.Native.Nat.{ℕ}
use mathlib.Core.Path.{sym}
use lib.ListN.{length-replicate}
use Rattle.frames.proofs.space.Goals as goal

pub returns : goal.returns
returns c = sym (length-replicate {A = ℕ} 1048576 0)
