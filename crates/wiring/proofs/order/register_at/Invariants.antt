-- `wiring::order::register_at` meets its contract: the pieces passed have named `seen` registers, the one asked for not
-- among them; later pieces only add at the end.
use Prim.Native.Nat.{◌≤◌}
use mathlib.Core.Path.{◌≡◌}
use lib.ListN.{length}
use Rattle.wiring.specs.Order.{registers_to}
use Rattle.wiring.proofs.order.register_at.Given as goal

abbrev pub invariant-loop-k : goal.invariant-loop-k
invariant-loop-k l = (l.seen ≤ l.n) × (l.seen ≤ l.k) × (l.seen ≡ length (registers_to l.variables l.part l.k))
