-- `rules::variable::early_of` meets its contract.
use Prim.Native.Nat.{ℕ}
use mathlib.Core.Path.{refl, ap, ◌∙◌}
use mathlib.Core.List.{List}
use Rattle.rules.specs.Lists.{list_for}
use Rattle.rules.specs.State.{state_of}
use Rattle.rules.specs.Variable.{read_of}
use Rattle.rules.specs.Fault.{or_else}
use Rattle.rules.proofs.VariableLaws.{early-is}
use Rattle.rules.proofs.variable.early_of.Goals as goal

pub name_fault-names-requires : goal.name_fault-names-requires
name_fault-names-requires c = let p = c.requires in record {
  asked = p;
  firsts_value = refl;
  seconds_value = refl;
}

pub returns : goal.returns
unfolding or_else state_of read_of
returns c =
    let a = c.args in
    let names = c.name_fault-names.ensures in
    let read = c.list_number-read.ensures ∙ c.list_for.ensures ∙ ap (λ (first : List ℕ). list_for a.known.registers.now a.variable first 0) names.first in
    let write = c.list_number-write.ensures ∙ c.list_for-2.ensures ∙ ap (λ (first : List ℕ). list_for a.known.registers.now a.variable first 1) names.first in
    record {
      fault =
          early-is _ _ _ _ _ _ _ _ names.named read write c.fault_if-unpaired.ensures c.or.ensures;
      read = read;
      write = write;
      firsts = names.first;
      seconds = names.second;
    }
