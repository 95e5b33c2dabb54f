-- `replay::call::lend_of` meets its contract. Assumes nothing.
use mathlib.Core.Path.{refl, sym, ◌∙◌}
use Rattle.replay.specs.Calls.{lent}
use Rattle.replay.proofs.CallLaws.{lend-so, chosen-here, chosen_on, chosen_none}
use Rattle.replay.proofs.call.lend_of.Goals as goal

pub returns-in_err-count : goal.returns-in_err-count
unfolding lent
returns-in_err-count c = c.from_residual.ensures ∙ lend-so _ _ _ c.word-what.ensures c.rest.ensures _ c.in_err-count.ensures

pub returns-then-is : goal.returns-then-is
unfolding lent
returns-then-is c = chosen-here _ _ _ (sym c.is.ensures ∙ c.if-is.true) refl ∙ lend-so _ _ _ c.word-what.ensures c.rest.ensures _ c.in_ok-count.ensures

pub returns-then-is-2 : goal.returns-then-is-2
unfolding lent
returns-then-is-2 c =
    chosen_on _ _ _ (sym c.is.ensures ∙ c.if-is.false) (chosen-here _ _ _ (sym c.is-else-is.ensures ∙ c.if-is-2.true) refl)
    ∙ lend-so _ _ _ c.word-what.ensures c.rest.ensures _ c.in_ok-count.ensures

pub returns-else-is-2 : goal.returns-else-is-2
unfolding lent
returns-else-is-2 c =
    chosen_on _ _ _ (sym c.is.ensures ∙ c.if-is.false) (chosen_on _ _ _ (sym c.is-else-is.ensures ∙ c.if-is-2.false) chosen_none)
    ∙ lend-so _ _ _ c.word-what.ensures c.rest.ensures _ c.in_ok-count.ensures
