-- `replay::fields::lay` meets its contract. Assumes nothing.
use native.Mathlib.Omega.{arith}
use mathlib.Core.Path.{refl, sym, ◌∙◌}
use Rattle.std.proofs.lemmas.List.{set-get_or}
use Rattle.replay.proofs.FieldLaws.{laid_end, laid_on, laid_past}
use Rattle.replay.proofs.fields.lay.Goals as goal

pub returns-then-is_bare : goal.returns-then-is_bare
returns-then-is_bare c = set-get_or _ _ _ ∙ laid_end _ _ _ (sym c.is_bare.ensures ∙ c.if-is_bare.true) ∙ sym c.loop-number.invariant

pub loop-number-preserved : goal.loop-number-preserved
loop-number-preserved c =
    c.loop-number.invariant
    ∙ laid_on _ (sym c.is_bare.ensures ∙ c.if-is_bare.false) _ c.word.ensures _ c.rest-more.ensures _ _ _ _ c.lent_number.ensures refl

pub returns : goal.returns
returns c = laid_past _ _ _ (omega arith) ∙ sym c.loop-number.invariant
