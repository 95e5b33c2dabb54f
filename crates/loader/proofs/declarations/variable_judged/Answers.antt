-- `loader::declarations::variable_judged` meets its contract.
use native.Mathlib.Omega.{arith}
use mathlib.Core.Path.{sym, ap, ◌∙◌}
use Rattle.rules.specs.State.{state_of, unless_stopped}
use Rattle.rules.proofs.FaultLaws.{is-none, not-none}
use Rattle.loader.specs.declared.known.Declared.{Declared}
use Rattle.loader.proofs.KnownLaws.{known-fresh, declared-number, variable-noted}
use Rattle.loader.proofs.declarations.variable_judged.Goals as goal

pub returns-then-is_some : goal.returns-then-is_some
unfolding unless_stopped state_of
returns-then-is_some c = record {
  judged = rw (sym c.is_some.ensures ∙ c.if-is_some.true);
  mapped = λ z. absurd (not-none _ (sym c.is_some.ensures ∙ c.if-is_some.true) z);
  names = c.requires.known;
}

pub judge_variable-judged-requires : goal.judge_variable-judged-requires
judge_variable-judged-requires c =
    let a = c.requires.judgeable in
    let z = is-none _ (sym c.is_some.ensures ∙ c.if-is_some.false) in
    let v = c.args.variable in
    let new = known-fresh _ _ _ v.place v.length c.requires.known (ap (λ (d : Declared). d.number) c.declared_at-name.ensures) c.unmarked.ensures in
    record {
      asked = record { fresh-name = new; few = a.few; second-few = a.second-few };
      registers_bound = a.registers-few;
      variables_bound = a.variables-few;
      variables_value = a.shaped z;
      mapped_2 = a.mapped z;
    }

pub mark_entry-requires : goal.mark_entry-requires
mark_entry-requires c = record {
  at_bound = omega (arith, c.word-count.ensures.small);
  number_value = declared-number _ _ _ c.declared_at-name.ensures;
}

pub returns : goal.returns
unfolding unless_stopped state_of
returns c =
    let j = c.judge_variable-judged.ensures in
    record {
      judged = rw (sym c.is_some.ensures ∙ c.if-is_some.false) j.judged;
      mapped = j.mapped;
      names = variable-noted _ _ _ _ _ _ c.requires.known j.judged c.word-count.ensures.is c.mark_entry.ensures;
    }
