-- Facts on signed numbers: -1 - z, and what the machine reads back from a number's bits.
use Prim.Native.Nat.{ℕ, zero, suc, ◌<◌, ◌^◌}
use mathlib.Core.Path.{◌≡◌, ◌∙◌, refl, sym, ap}
use native.Mathlib.Omega.{arith}
use native.Mathlib.Nat.{zero-add}
use borrow.Author.Tests.{le-ltb}
use lib.IntN.{ℤ, pos, negsuc, ◌-ℤ◌}
use mathlib.Core.Bool.{false}
use lib.Dec.{T, ltb, ltb→lt}
use lib.Signed.{mag, lt_z, ◌<ℤ◌}
use mir.Syntax.{w64}
use mir.Val.{SFits, to_z, of_z}
use mir.Facts.{to_z-of_z}

pub flip_natural : (k : ℕ) → negsuc 0 -ℤ pos k ≡ negsuc k
flip_natural zero = refl
flip_natural (suc k) = ap negsuc (ap suc (zero-add k))

pub flip_negative : (k : ℕ) → negsuc 0 -ℤ negsuc k ≡ pos k
flip_negative k = rw (le-ltb (suc k) 1 (omega arith)) (ap pos (omega arith))

-- a negative number, by its magnitude
pub negative-is : (z : ℤ) → z <ℤ pos 0 → z ≡ negsuc (mag z)
negative-is (pos k) h = absurd (no k h.lt)
  where
    no : (k : ℕ) → T (ltb k 0) → ⊥
    no k t = let l = ltb→lt k 0 t in omega arith
negative-is (negsuc k) h = refl

module _ (z : ℤ) (f : SFits w64 z) (h : z <ℤ pos 0) where
  pub turned : negsuc 0 -ℤ to_z w64 (of_z w64 z) ≡ pos (mag z)
  turned = ap (λ (y : ℤ). negsuc 0 -ℤ y) (to_z-of_z f ∙ negative-is z h) ∙ flip_negative (mag z)

  pub turned-fits : SFits w64 (pos (mag z))
  turned-fits = record { sfits = f.sfits }

  pub turned-read : to_z w64 (of_z w64 (negsuc 0 -ℤ to_z w64 (of_z w64 z))) ≡ pos (mag z)
  turned-read = ap (λ (y : ℤ). to_z w64 (of_z w64 y)) turned ∙ to_z-of_z turned-fits

pub minus_one : (k : ℕ) → k < 2 ^ 63 → negsuc 0 -ℤ to_z w64 k ≡ negsuc k
minus_one k h = ap (λ (y : ℤ). negsuc 0 -ℤ y) (to_z-of_z {w = w64} {z = pos k} (record { sfits = h })) ∙ flip_natural k

pub natural-read : (k : ℕ) → k < 2 ^ 63 → to_z w64 k ≡ pos k
natural-read k h = to_z-of_z {w = w64} {z = pos k} (record { sfits = h })

-- a number that is not below zero, by its magnitude
pub natural-is : (z : ℤ) → lt_z z (pos 0) ≡ false → z ≡ pos (mag z)
natural-is (pos k) h = refl
natural-is (negsuc k) h = let n : ◌≡◌ {A = ℕ} 0 1 = cc in absurd (omega arith)

pub negative-read : (k : ℕ) → k < 2 ^ 63 → to_z w64 (of_z w64 (negsuc k)) ≡ negsuc k
negative-read k h = to_z-of_z {w = w64} {z = negsuc k} (record { sfits = h })

-- what the machine reads of a number that is not below zero
module _ (z : ℤ) (f : SFits w64 z) (h : lt_z (to_z w64 (of_z w64 z)) (pos 0) ≡ false) where
  pub natural-bits : to_z w64 (of_z w64 z) ≡ pos (mag z)
  natural-bits = natural-is _ h ∙ ap (λ (y : ℤ). pos (mag y)) (to_z-of_z f)

  pub natural-whole : z ≡ pos (mag z)
  natural-whole = sym (to_z-of_z f) ∙ natural-bits
