-- `replay::call::amount` meets its contract. Assumes nothing.
use mathlib.Core.Path.{ap, ◌∙◌}
use Rattle.std.specs.Prelude.{option_and_then}
use Rattle.script.specs.Numbers.{number_of}
use Rattle.replay.proofs.CallLaws.{amount-all, amount-some}
use Rattle.replay.proofs.call.amount.Goals as goal

pub returns-then-is-is_bare : goal.returns-then-is-is_bare
returns-then-is-is_bare c = amount-all _ _ _ c.word.ensures c.rest.ensures _ _ c.is.ensures c.is_bare.ensures c.if-is-is_bare.true

pub returns-in_err-only_word : goal.returns-in_err-only_word
returns-in_err-only_word c =
    c.from_residual.ensures
    ∙ amount-some _ _ _ c.word.ensures c.rest.ensures _ _ c.is.ensures c.is_bare.ensures _ (ap (option_and_then number_of) c.in_err-only_word.ensures) c.if-is-is_bare.false

pub returns-in_ok-only_word : goal.returns-in_ok-only_word
returns-in_ok-only_word c =
    amount-some _ _ _ c.word.ensures c.rest.ensures _ _ c.is.ensures c.is_bare.ensures _ (c.number_of.ensures ∙ ap (option_and_then number_of) c.in_ok-only_word.ensures) c.if-is-is_bare.false
