use Prim.Native.Nat.{◌-◌}
use mathlib.Core.Path.{◌≡◌}
use Rattle.syntax.specs.Text.{idle, bare, more_declarations}
use Rattle.syntax.proofs.text.more_declarations.Given as goal

abbrev pub invariant-loop : goal.invariant-loop
invariant-loop l = more_declarations idle l.text l.end (bare l.initial.all) ≡ more_declarations idle l.text (l.end - l.counter) (bare l.all)
