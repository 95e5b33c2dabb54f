-- `loader::whole::load_into` meets its contract.
use mathlib.Core.Path.{sym, ◌∙◌}
use Rattle.loader.specs.Load.{Sized}
use Rattle.loader.proofs.LoadLaws.{cleared-blank, left-accepted, left-refused}
use Rattle.loader.proofs.whole.load_into.Goals as goal

pub verdict_on-verdict-requires : goal.verdict_on-verdict-requires
verdict_on-verdict-requires c = cleared-blank _ _ _ c.requires (c.fill.ensures.after (λ y e. e)) (c.fill-2.ensures.after (λ y e. e)) (c.fill-3.ensures.after (λ y e. e))

pub returns-then-is_err-clause-left : goal.returns-then-is_err-clause-left
returns-then-is_err-clause-left c =
    let verdict = c.verdict_on-verdict in
    let sized : Sized verdict.new.parameters verdict.new.registers verdict.new.variables =
    record {
      parameters = verdict.auto.parameters ∙ c.fill.auto.self ∙ c.requires.parameters;
      registers = verdict.auto.registers ∙ c.fill-2.auto.self ∙ c.requires.registers;
      variables = verdict.auto.variables ∙ c.fill-3.auto.self ∙ c.requires.variables;
    } in
    left-refused _ verdict.ensures.answered (sym c.is_err.ensures.value ∙ c.if-is_err.true)
    (cleared-blank _ _ _ sized (c.fill-then-is_err.ensures.after (λ y e. e)) (c.fill-then-is_err-2.ensures.after (λ y e. e)) (c.fill-then-is_err-3.ensures.after (λ y e. e)))

pub returns-else-is_err-clause-left : goal.returns-else-is_err-clause-left
returns-else-is_err-clause-left c =
    let verdict = c.verdict_on-verdict in
    left-accepted _ verdict.ensures.answered (sym c.is_err.ensures.value ∙ c.if-is_err.false) verdict.ensures.left
