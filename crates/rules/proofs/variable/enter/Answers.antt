use Rattle.rules.proofs.VariableLaws.{mapped-entry, judged-at, mapped_at}
use borrow.Author.Rules.{rules}
use Prim.Native.Nat.{ℕ}
use Rattle.rules.specs.Fault.{fault_of}
use mathlib.Core.Path.{sym, ◌∙◌, ap}
use Rattle.rules.proofs.FaultLaws.{is-none, not-none, of-none}
use Rattle.rules.proofs.variable.enter.Goals as goal

pub late_number-number-requires : goal.late_number-number-requires
late_number-number-requires c =
    let p = c.requires in
    record {
      v_bound = search rules;
      registers_bound = search rules;
      mapped = mapped-entry _ _ _ _ _ _ p.variables_value p.mapped_2 c.store_variable.ensures c.word-v.ensures.is;
    }

pub returns-then-is_some : goal.returns-then-is_some
returns-then-is_some c = record {
  stored = c.store_variable.ensures;
  judged = c.fault_of-fault.ensures ∙ ap (λ (n : ℕ). fault_of n c.args.variable.place) (judged-at _ _ _ c.late_number-number.ensures c.word-v.ensures.is);
  mapped = λ e. absurd (not-none _ (sym c.is_some.ensures ∙ c.if-is_some.true) e);
}

pub returns : goal.returns
returns c =
    let p = c.requires in
    let stored = c.store_variable.ensures in
    let count = c.word-v.ensures.is in
    let none = is-none _ (sym c.is_some.ensures ∙ c.if-is_some.false) in
    record {
      stored = stored;
      judged = sym none ∙ c.fault_of-fault.ensures ∙ ap (λ (n : ℕ). fault_of n c.args.variable.place) (judged-at _ _ _ c.late_number-number.ensures count);
      mapped = λ e. mapped_at _ _ _ p.registers_bound c.late_number-number.ensures (of-none _ _ (sym c.fault_of-fault.ensures ∙ none)) count (mapped-entry _ _ _ _ _ _ p.variables_value p.mapped_2 stored count) c.enter_variable.ensures.read c.enter_variable.ensures.write;
    }
