-- `loader::declarations::register_judged` meets its contract.
use native.Mathlib.Omega.{arith}
use mathlib.Core.Path.{ap}
use Rattle.rules.specs.State.{state_of}
use Rattle.loader.specs.declared.known.Declared.{Declared}
use Rattle.loader.proofs.KnownLaws.{known-fresh, declared-number, register-noted}
use Rattle.loader.proofs.declarations.register_judged.Goals as goal

pub judge_register-judged-requires : goal.judge_register-judged-requires
judge_register-judged-requires c = let r = c.args.register in known-fresh _ _ _ r.place r.length c.requires (ap (λ (d : Declared). d.number) c.declared_at-name.ensures) c.unmarked.ensures

pub mark_entry-requires : goal.mark_entry-requires
mark_entry-requires c = record {
  at_bound = omega (arith, c.word-count.ensures.small);
  number_value = declared-number _ _ _ c.declared_at-name.ensures;
}

pub returns : goal.returns
unfolding state_of
returns c = record {
  judged = c.judge_register-judged.ensures;
  names = register-noted _ _ _ _ _ _ c.requires c.judge_register-judged.ensures c.word-count.ensures.is c.mark_entry.ensures;
}
