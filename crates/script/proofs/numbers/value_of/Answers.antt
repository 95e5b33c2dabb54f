-- `script::numbers::value_of` meets its contract. Assumes nothing.
use mathlib.Core.Path.{sym, ◌∙◌}
use Rattle.token.specs.Bytes.{bytes}
use Rattle.script.specs.Numbers.{value_of, negated, natural}
use Rattle.script.proofs.NumberLaws.{begins-taken, negated-tried, natural-tried}
use Rattle.script.proofs.numbers.value_of.Goals as goal

pub returns-in_err-number_of-in-Some : goal.returns-in_err-number_of-in-Some
unfolding value_of negated
returns-in_err-number_of-in-Some c =
    let starts = sym (begins-taken (bytes "-") c.args.word.now) ∙ c.in-Some.ensures.cases.0 in
    rw (starts, value_of, ← c.in-Some.ensures.cases.1, ← c.in_err-number_of-in-Some.ensures) c.from_residual.ensures

pub returns-in_err-number_of-in-None : goal.returns-in_err-number_of-in-None
unfolding value_of natural
returns-in_err-number_of-in-None c =
    let not = sym (begins-taken (bytes "-") c.args.word.now) ∙ c.in-None.ensures.cases in
    rw (not, value_of, ← c.in_err-number_of-in-None.ensures) c.from_residual-in_err-number_of-in-None.ensures

pub returns-in_ok-number_of-in-Some : goal.returns-in_ok-number_of-in-Some
unfolding value_of
returns-in_ok-number_of-in-Some c =
    let starts = sym (begins-taken (bytes "-") c.args.word.now) ∙ c.in-Some.ensures.cases.0 in
    rw (starts, value_of, ← c.in-Some.ensures.cases.1, ← c.in_ok-number_of-in-Some.ensures) (negated-tried _ _ c.checked_sub_unsigned.ensures)

pub returns-in_ok-number_of-in-None : goal.returns-in_ok-number_of-in-None
unfolding value_of
returns-in_ok-number_of-in-None c =
    let not = sym (begins-taken (bytes "-") c.args.word.now) ∙ c.in-None.ensures.cases in
    rw (not, value_of, ← c.in_ok-number_of-in-None.ensures) (c.ok.ensures.value ∙ natural-tried _ _ c.try_from.ensures)
