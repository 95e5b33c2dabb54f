-- `wiring::pieces::carried_by` meets its contract: the invariant says that the pieces not yet seen decide; each turn is
-- one law of `carried_below`.
use Prim.Native.Nat.{◌+◌, ◌*◌, ◌≤◌}
use mathlib.Core.Path.{◌≡◌}
use Rattle.wiring.specs.Pieces.{carried_by, carried_below}
use Rattle.wiring.proofs.pieces.carried_by.Given as goal

abbrev pub invariant-loop-k : goal.invariant-loop-k
invariant-loop-k l = (l.base + 4294967296 * l.k ≤ 34359738368) × (carried_by l.variables l.part l.r l.b ≡ carried_below l.variables l.part l.r l.b l.k l.base)
