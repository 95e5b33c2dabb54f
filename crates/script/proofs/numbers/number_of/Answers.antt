-- `script::numbers::number_of` meets its contract. Assumes nothing.
use mathlib.Core.Path.{sym, ap, ◌∙◌}
use Rattle.token.specs.Bytes.{bytes}
use Rattle.script.specs.Numbers.{number_of, figures}
use Rattle.script.proofs.NumberLaws.{begins-taken}
use Rattle.script.proofs.numbers.number_of.Goals as goal

pub returns-in-Some : goal.returns-in-Some
unfolding number_of
returns-in-Some c =
    let starts = sym (begins-taken (bytes "0x") c.args.word.now) ∙ c.in-Some.ensures.cases.0 in
    rw (starts, number_of) (c.digits.ensures ∙ ap (figures 16) c.in-Some.ensures.cases.1)

pub returns-in-None : goal.returns-in-None
unfolding number_of
returns-in-None c =
    let not = sym (begins-taken (bytes "0x") c.args.word.now) ∙ c.in-None.ensures.cases in
    rw (not, number_of) c.digits-in-None.ensures
