use Prim.Native.Nat.{◌-◌}
use mathlib.Core.Path.{◌≡◌}
use Rattle.syntax.specs.Attribute.{more_behaviours}
use Rattle.syntax.proofs.attribute.more_behaviours.Given as goal

abbrev pub invariant-loop : goal.invariant-loop
invariant-loop l = more_behaviours l.text l.end l.fn.b l.fn.from ≡ more_behaviours l.text (l.end - l.counter) l.all.value l.all.step
