-- Laws of words written and read.
-- Assumes nothing.
use Prim.Native.Nat.{ℕ, zero, suc, ◌<◌, ◌≤◌, ◌^◌, min}
use mathlib.Core.Path.{◌≡◌, ◌∙◌, refl, sym, ap}
use mathlib.Core.List.{List, [], ◌∷◌, ◌++◌}
use native.Mathlib.Omega.{arith}
use lib.IntN.{ℤ, pos}
use lib.ListN.{length, get_or, set, take, drop}
use mir.Syntax.{w64}
use mir.Val.{to_z, of_z}
use Rattle.bits.proofs.Signed.{natural-read}
use Rattle.abi.specs.Words.{written}

module _ {A : Type 0} where
  -- as many as there is room for are copied
  pub copied : (told lent : List A) (n : ℕ) → n ≡ min (length told) (length lent) → take n told ++ drop n lent ≡ written told lent
  unfolding written
  copied [] lent zero e = refl
  copied [] lent (suc n) e = absurd (omega arith)
  copied (word ∷ told) [] zero e = refl
  copied (word ∷ told) [] (suc n) e = absurd (omega arith)
  copied (word ∷ told) (old ∷ lent) zero e = absurd (omega arith)
  copied (word ∷ told) (old ∷ lent) (suc n) e = ap (word ∷◌) (copied told lent n (omega arith))

  -- one word more is written at its place, or lost where there is none
  pub written-on : (told lent : List A) (i : ℕ) {x : A} → i < length told → x ≡ get_or told i x → written (take (suc i) told) lent ≡ set (written (take i told) lent) i x
  unfolding written
  written-on [] lent i h e = absurd (omega arith)
  written-on (word ∷ told) [] zero h e = refl
  written-on (word ∷ told) [] (suc i) h e = refl
  written-on (word ∷ told) (old ∷ lent) zero h e = ap (λ (first : A). first ∷ lent) (sym e)
  written-on (word ∷ told) (old ∷ lent) (suc i) h e = ap (word ∷◌) (written-on told lent i (omega arith) e)

  pub written-lost : (told lent : List A) (i : ℕ) → length lent ≤ i → written (take (suc i) told) lent ≡ written (take i told) lent
  unfolding written
  written-lost [] lent zero h = refl
  written-lost [] lent (suc i) h = refl
  written-lost (word ∷ told) [] zero h = refl
  written-lost (word ∷ told) [] (suc i) h = refl
  written-lost (word ∷ told) (old ∷ lent) zero h = absurd (omega arith)
  written-lost (word ∷ told) (old ∷ lent) (suc i) h = ap (word ∷◌) (written-lost told lent i (omega arith))

-- what the machine reads back from a number that fits
pub said : (n : ℕ) {z : ℤ} → n < 2 ^ 32 → z ≡ pos n → to_z w64 (of_z w64 z) ≡ pos n
said n small e = ap (λ (y : ℤ). to_z w64 (of_z w64 y)) e ∙ natural-read n (omega arith)
