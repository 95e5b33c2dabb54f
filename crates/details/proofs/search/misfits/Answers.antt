-- `details::search::misfits` meets its contract.
use Prim.Native.Nat.{ℕ}
use mathlib.Core.Path.{ap₂}
use mathlib.Core.Bool.{◌&&◌, not}
use lib.Dec.{leb}
use Rattle.details.proofs.search.misfits.Goals as goal

pub returns : goal.returns
returns c = ap₂ (λ (l h : ℕ). not (leb l h && leb h 255)) c.range_low.ensures c.range_high-high.ensures
