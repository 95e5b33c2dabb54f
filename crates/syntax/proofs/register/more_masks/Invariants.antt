use Prim.Native.Nat.{◌-◌}
use mathlib.Core.Path.{◌≡◌}
use Rattle.syntax.specs.Register.{more_masks}
use Rattle.syntax.proofs.register.more_masks.Given as goal

abbrev pub invariant-loop : goal.invariant-loop
invariant-loop l = more_masks l.text l.end l.fn.masks l.fn.from ≡ more_masks l.text (l.end - l.counter) l.all.value l.all.step
