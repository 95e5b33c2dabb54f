-- `replay::fields::count_numbers` meets its contract. Assumes nothing.
use Rattle.replay.proofs.FieldLaws.{tail-shorter, count-end, count-stops, count-on}
use native.Mathlib.Omega.{arith}
use mathlib.Core.Path.{refl, sym, ◌∙◌}
use Rattle.replay.proofs.fields.count_numbers.Goals as goal

pub loop-more-init : goal.loop-more-init
loop-more-init c = (refl, omega arith)

pub returns-in_err-carried : goal.returns-in_err-carried
returns-in_err-carried c =
    c.from_residual.ensures ∙ count-stops _ (sym c.is_bare.ensures ∙ c.loop-more-test.true) _ c.word.ensures _ c.in_err-carried.ensures
    ∙ sym c.loop-more.invariant.0

pub loop-more-smaller : goal.loop-more-smaller
loop-more-smaller c = tail-shorter _ (sym c.is_bare.ensures ∙ c.loop-more-test.true) _ c.word.ensures _ c.rest-more.ensures

pub loop-more-preserved : goal.loop-more-preserved
loop-more-preserved c =
    let some = sym c.is_bare.ensures ∙ c.loop-more-test.true in (
      c.loop-more.invariant.0 ∙ count-on _ some _ c.word.ensures _ c.rest-more.ensures _ _ c.in_ok-carried.ensures,
      omega (arith, c.loop-more.invariant.1, tail-shorter _ some _ c.word.ensures _ c.rest-more.ensures),
    )

pub returns : goal.returns
returns c = count-end _ _ (sym c.is_bare.ensures ∙ c.loop-more-test.false) ∙ sym c.loop-more.invariant.0
