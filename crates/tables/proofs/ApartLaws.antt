-- Rule 10's exception: what the words of two masks say of their bits, for any width.
use Prim.Native.Nat.{ℕ, ◌≤◌, ◌<◌, ◌^◌}
use mathlib.Core.Path.{◌≡◌, refl, sym, ap, ◌∙◌}
use mathlib.Core.Bool.{Bool, true, false, ◌&&◌, ◌||◌, not, and-false, true≢false, false≢true}
use lib.Bits.{bit_and}
use lib.Dec.{eqb, ltb}
use borrow.Author.Tests.{eqb-true, eq-eqb, ltb-true, ltb-false}
use Rattle.bits.specs.Bits.{bit}
use Rattle.bits.specs.Widths.{widest}
use Rattle.bits.proofs.BitLaws.{bit-over}
use Rattle.bits.proofs.MaskLaws.{bit_and_lem, same_bits}
use Rattle.tables.specs.Every.{some}
use Rattle.tables.specs.Tables.{RegisterPart}
use Rattle.tables.specs.Rules.{tells, told_apart}
use Rattle.tables.proofs.Laws.{some-nowhere, some-none-at}

-- one bit of two masks, fixed (f, g) and `1` (o, p) or not: it does not tell them apart exactly where both, or neither,
-- have a one that both fix
abbrev apart : Bool → Bool → Bool → Bool → Bool
apart f o g p = ((f && not o) && (g && p)) || ((f && o) && (g && not p))

alike-tells : (f o g p : Bool) → (o && (f && g)) ≡ (p && (f && g)) → apart f o g p ≡ false
alike-tells false o g p e = refl
alike-tells true true false p e = refl
alike-tells true false false p e = refl
alike-tells true true true true e = refl
alike-tells true true true false e = absurd (true≢false e)
alike-tells true false true true e = absurd (false≢true e)
alike-tells true false true false e = refl

tells_alike : (f o g p : Bool) → apart f o g p ≡ false → (o && (f && g)) ≡ (p && (f && g))
tells_alike false o g p e = and-false o ∙ sym (and-false p)
tells_alike true o false p e = and-false o ∙ sym (and-false p)
tells_alike true true true true e = refl
tells_alike true true true false e = absurd (true≢false e)
tells_alike true false true true e = absurd (true≢false e)
tells_alike true false true false e = refl

under-both : (y f g : Bool) → ((y && f) && (f && g)) ≡ ((y && g) && (f && g))
under-both false f g = refl
under-both true true true = refl
under-both true true false = refl
under-both true false true = refl
under-both true false false = refl

module _ (a b : RegisterPart) where
  -- the ones of a mask where both are fixed
  abbrev ones : ℕ → ℕ
  ones o = bit_and o (bit_and a.fixed b.fixed)

  bit-ones : (k o : ℕ) → bit k (ones o) ≡ (bit k o && (bit k a.fixed && bit k b.fixed))
  bit-ones k o = bit_and_lem k o (bit_and a.fixed b.fixed) ∙ ap (λ (d : Bool). bit k o && d) (bit_and_lem k a.fixed b.fixed)

  -- "some bit is fixed 0 in one mask and 1 in the other", for masks of any width: exactly where the ones of the two
  -- differ under what both fix
  pub told_apart-bit : (w : ℕ) → a.fixed < 2 ^ w → not (eqb (ones a.ones) (ones b.ones)) ≡ some w (tells a b)
  told_apart-bit w h = go (eqb (ones a.ones) (ones b.ones)) refl (some w (tells a b)) refl
    where
      none_over : (k : ℕ) → w ≤ k → tells a b k ≡ false
      none_over k l =
          ap (λ (f : Bool). apart f (bit k a.ones) (bit k b.fixed) (bit k b.ones)) (bit-over w k a.fixed h l)

      everywhere : some w (tells a b) ≡ false → (k : ℕ) (inside : Bool) → ltb k w ≡ inside → tells a b k ≡ false
      everywhere none k true l = some-none-at w (tells a b) none k (ltb-true k w l)
      everywhere none k false l = none_over k (ltb-false k w l)

      same : some w (tells a b) ≡ false → ones a.ones ≡ ones b.ones
      same none =
          same_bits (ones a.ones) (ones b.ones)
          (λ k. bit-ones k a.ones
          ∙ tells_alike (bit k a.fixed) (bit k a.ones) (bit k b.fixed) (bit k b.ones) (everywhere none k (ltb k w) refl)
          ∙ sym (bit-ones k b.ones))

      none : ones a.ones ≡ ones b.ones → some w (tells a b) ≡ false
      none e =
          some-nowhere w (tells a b)
          (λ k l. alike-tells (bit k a.fixed) (bit k a.ones) (bit k b.fixed) (bit k b.ones)
          (sym (bit-ones k a.ones) ∙ ap (bit k) e ∙ bit-ones k b.ones))

      go : (e : Bool) → eqb (ones a.ones) (ones b.ones) ≡ e → (s : Bool) → some w (tells a b) ≡ s → not e ≡ s
      go true e true s = sym (none (eqb-true (ones a.ones) (ones b.ones) e)) ∙ s
      go true e false s = refl
      go false e true s = refl
      go false e false s = sym (eq-eqb (ones a.ones) (ones b.ones) (same s)) ∙ e

  -- no byte has the fixed bits of both masks where one bit tells them apart
  pub one-obeyed : (byte : ℕ) → ((k : ℕ) → (bit k byte && bit k a.fixed) ≡ bit k a.ones) → ((k : ℕ) → (bit k byte && bit k b.fixed) ≡ bit k b.ones)
      → told_apart a b ≡ false
  unfolding told_apart
  one-obeyed byte in-a in_b =
      some-nowhere widest (tells a b)
      (λ k l.
      let f = bit k a.fixed in
      let g = bit k b.fixed in
      alike-tells f (bit k a.ones) g (bit k b.ones)
      (ap (λ (d : Bool). d && (f && g)) (sym (in-a k)) ∙ under-both (bit k byte) f g ∙ ap (λ (d : Bool). d && (f && g)) (in_b k)))
