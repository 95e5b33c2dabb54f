-- `details::entries::variable_volatile` meets its contract.
use Prim.Native.Nat.{ℕ}
use mathlib.Core.Path.{ap}
use lib.Dec.{eqb}
use Rattle.details.proofs.entries.variable_volatile.Goals as goal

pub returns : goal.returns
returns c = ap (λ (n : ℕ). eqb n 1) c.word.ensures.is
