use Prim.Native.Nat.{◌-◌}
use mathlib.Core.Path.{◌≡◌}
use Rattle.syntax.specs.Text.{idle, bare, more_parameters}
use Rattle.syntax.proofs.text.more_parameters.Given as goal

abbrev pub invariant-loop : goal.invariant-loop
invariant-loop l = more_parameters idle l.text l.end (bare l.initial.all) ≡ more_parameters idle l.text (l.end - l.counter) (bare l.all)
