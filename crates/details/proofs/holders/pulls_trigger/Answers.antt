-- `details::holders::pulls_trigger` meets its contract.
use Prim.Native.Nat.{ℕ}
use mathlib.Core.Path.{ap}
use lib.Dec.{eqb}
use Rattle.details.proofs.holders.pulls_trigger.Goals as goal

pub returns : goal.returns
returns c = ap (λ (w : ℕ). eqb w 1) c.variable_word.ensures.is
