-- `loader::declarations::more_declarations` meets its contract.
use Prim.Native.Nat.{◌-◌}
use mathlib.Core.Path.{◌≡◌}
use Rattle.syntax.specs.Text.{more_declarations}
use Rattle.loader.specs.Judge.{judge, progress_of}
use Rattle.loader.specs.Ready.{Noted}
use Rattle.loader.proofs.declarations.more_declarations.Given as goal

abbrev pub invariant-loop : goal.invariant-loop
invariant-loop l = record {
  read : more_declarations (judge l.text) l.text l.end (progress_of l.initial.all l.parameters l.initial.registers l.initial.variables)
      ≡ more_declarations (judge l.text) l.text (l.end - l.counter) (progress_of l.all l.parameters l.registers l.variables);
  noted : Noted l.text (progress_of l.all l.parameters l.registers l.variables) l.reads l.writes l.known;
}
