-- `wiring::order::register_count` meets its contract: the pieces passed have named `seen` registers.
use Prim.Native.Nat.{◌≤◌}
use mathlib.Core.Path.{◌≡◌}
use lib.ListN.{length}
use Rattle.wiring.specs.Order.{registers_to}
use Rattle.wiring.proofs.order.register_count.Given as goal

abbrev pub invariant-loop-k : goal.invariant-loop-k
invariant-loop-k l = (l.seen ≤ l.k) × (l.seen ≡ length (registers_to l.variables l.part l.k))
