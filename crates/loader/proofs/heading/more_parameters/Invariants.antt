-- `loader::heading::more_parameters` meets its contract.
use Prim.Native.Nat.{◌-◌}
use mathlib.Core.Path.{◌≡◌}
use Rattle.syntax.specs.Text.{more_parameters}
use Rattle.loader.specs.Judge.{judge, progress_of}
use Rattle.loader.proofs.heading.more_parameters.Given as goal

abbrev pub invariant-loop : goal.invariant-loop
invariant-loop l =
    more_parameters (judge l.text) l.text l.end (progress_of l.initial.all l.initial.parameters l.registers l.variables)
    ≡ more_parameters (judge l.text) l.text (l.end - l.counter) (progress_of l.all l.parameters l.registers l.variables)
