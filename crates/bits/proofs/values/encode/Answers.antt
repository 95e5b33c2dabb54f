-- `bits::values::encode` meets its contract.
use mathlib.Core.Path.{◌∙◌, sym, ap, subst}
use native.Mathlib.Omega.{arith}
use lib.IntN.{ℤ, pos, nat_abs}
use lib.Signed.{non_neg}
use lib.Dec.{T}
use mir.Syntax.{w64}
use mir.Val.{Fits}
use mir.Facts.{to_z-of_z}
use Rattle.bits.specs.Values.{encoded}
use Rattle.bits.proofs.Signed.{natural-bits, natural-whole}
use Rattle.bits.proofs.values.encode.Goals as goal

pub overflow_cast-value : goal.overflow_cast-value
overflow_cast-value c =
    subst (λ (y : ℤ). T (non_neg y) × Fits w64 (nat_abs y)) (sym (natural-bits c.args.value c.ranges.value c.if-value-lt0.false)) (tt, record { fits = omega (arith, c.ranges.value.sfits) })

pub returns-then-value-lt0 : goal.returns-then-value-lt0
returns-then-value-lt0 c =
    let e = sym (to_z-of_z c.ranges.value) ∙ c.below_zero.ensures in
    c.encode_negative.ensures ∙ sym (ap (encoded c.args.kind c.args.width) e)

pub returns-else-value-lt0 : goal.returns-else-value-lt0
returns-else-value-lt0 c =
    let a = c.args in
    let e = natural-whole a.value c.ranges.value c.if-value-lt0.false in
    c.encode_natural.ensures ∙ ap (λ (y : ℤ). encoded a.kind a.width (pos (nat_abs y))) (natural-bits a.value c.ranges.value c.if-value-lt0.false) ∙ sym (ap (encoded a.kind a.width) e)
