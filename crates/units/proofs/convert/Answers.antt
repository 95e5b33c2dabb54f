use Rattle.std.proofs.Common.{sym, ap, ◌∙◌, w64}
use lib.Ieee.{binary64, of_int}
use mir.ValLaws.{to_z-of_z}
use Rattle.logic.proofs.Tests.{failed, passed}
use Rattle.units.proofs.UnitLaws.{finite-is, not-usable, converted-is}
use Rattle.units.proofs.convert.Goals as goal

pub returns-then-not-is_usable : goal.returns-then-not-is_usable
returns-then-not-is_usable c = sym (not-usable _ _ (failed c.is_usable.ensures c.if-not-is_usable.true))

pub returns-then-is_finite : goal.returns-then-is_finite
returns-then-is_finite c = sym (converted-is c.args.value c.args.c _ _ _ _ (passed c.is_usable.ensures c.if-not-is_usable.false) (c.nearest_i64_to_f64-reading.ensures ∙ ap (of_int binary64) (to_z-of_z w64 _ c.ranges.value)) (c.is_finite.ensures.value ∙ finite-is _) (c.is_finite-2.ensures.value ∙ finite-is _) c.if-is_finite.true)

pub returns-else-is_finite : goal.returns-else-is_finite
returns-else-is_finite c = sym (converted-is c.args.value c.args.c _ _ _ _ (passed c.is_usable.ensures c.if-not-is_usable.false) (c.nearest_i64_to_f64-reading.ensures ∙ ap (of_int binary64) (to_z-of_z w64 _ c.ranges.value)) (c.is_finite.ensures.value ∙ finite-is _) (c.is_finite-2.ensures.value ∙ finite-is _) c.if-is_finite.false)
