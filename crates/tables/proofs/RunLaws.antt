-- A run of bits that are all set, as one comparison; and a loop over the bits of a number that ends behind the last
-- that is set.
use Prim.Native.Nat.{ℕ, zero, suc, ◌+◌, ◌-◌, ◌*◌, ◌/◌, ◌%◌, ◌^◌, ◌<◌}
use native.Mathlib.Omega.{arith}
use native.Mathlib.Nat.{add-suc, div-div-eq-div-mul, div-eq_of_lt, lt_of_lt_of_le}
use mathlib.Core.Path.{◌≡◌, refl, sym, ap, ap₂, ◌∙◌}
use mathlib.Core.Bool.{Bool, true, false, ◌&&◌, ◌||◌, not, and-false, and-true, and_assoc}
use lib.Dec.{eqb, leb, ltb}
use lib.Pow.{pow-add, pow_mono}
use borrow.Author.Tests.{eq-eqb, eqb-false, eqb-true, leb-false, leb-true, ltb-false, ltb-true, ne_eqb}
use Rattle.bits.specs.Bits.{bit, digit, number_of}
use Rattle.bits.proofs.BitLaws.{number-low, number_lt}
use Rattle.bits.proofs.MaskLaws.{bit-none}
use Rattle.tables.specs.Every.{every}
use Rattle.tables.proofs.Laws.{every-same}

-- the number of n bits that are all set is the greatest
all_set : (n : ℕ) (f : ℕ → Bool) → every n f ≡ eqb (number_of n f) (2 ^ n - 1)
unfolding every number_of
all_set zero f = refl
all_set (suc n) f = ap (λ (b : Bool). b && f n) (all_set n f) ∙ go (f n) (eqb (number_of n f) (2 ^ n - 1)) refl (number_lt n f)
  where
    go : (on full : Bool) → eqb (number_of n f) (2 ^ n - 1) ≡ full → number_of n f < 2 ^ n
        → (eqb (number_of n f) (2 ^ n - 1) && on) ≡ eqb (number_of n f + digit on * 2 ^ n) (2 ^ suc n - 1)
    go true true e l = let q : number_of n f ≡ 2 ^ n - 1 = eqb-true _ _ e in rw e (sym (eq-eqb (number_of n f + digit true * 2 ^ n) (2 ^ suc n - 1) (omega arith)))
    go true false e l = rw e (sym (ne_eqb _ _ (λ (h : number_of n f + digit true * 2 ^ n ≡ 2 ^ suc n - 1). eqb-false (number_of n f) (2 ^ n - 1) e (omega arith))))
    go false full e l = and-false (eqb (number_of n f) (2 ^ n - 1)) ∙ sym (ne_eqb _ _ (λ (h : number_of n f + digit false * 2 ^ n ≡ 2 ^ suc n - 1). absurd (omega arith)))

bit-from : (low k dots : ℕ) → bit (low + k) dots ≡ bit k (dots / 2 ^ low)
unfolding bit
bit-from low k dots = ap (λ (q : ℕ). eqb (q % 2) 1) (ap (λ (p : ℕ). dots / p) (pow-add 2 low k) ∙ sym (div-div-eq-div-mul dots (2 ^ low) (2 ^ k)))

pub dots-set : (dots low n : ℕ) → eqb (dots / 2 ^ low % 2 ^ n) (2 ^ n - 1) ≡ every n (λ k. bit (low + k) dots)
dots-set dots low n =
    sym (every-same n (λ k. bit (low + k) dots) (λ k. bit k (dots / 2 ^ low)) (λ k l. bit-from low k dots) ∙ all_set n (λ k. bit k (dots / 2 ^ low)) ∙
    ap (λ (x : ℕ). eqb x (2 ^ n - 1)) (number-low n (dots / 2 ^ low)))

-- a number of w bits has a bit left from b up only where b is below w
pub bits_left : (w b dots : ℕ) → dots < 2 ^ w → (dots / 2 ^ b ≡ 0 → ⊥) → b < w
bits_left w b dots h left = go (ltb b w) refl
  where
    go : (inside : Bool) → ltb b w ≡ inside → b < w
    go true e = ltb-true b w e
    go false e = absurd (left (div-eq_of_lt (lt_of_lt_of_le h (pow_mono (ltb-false b w e)))))

none_left : (b k dots : ℕ) → dots / 2 ^ b ≡ 0 → bit (b + k) dots ≡ false
none_left b k dots h = bit-from b k dots ∙ ap (bit k) h ∙ bit-none k

every-past : (p : ℕ → Bool) (k d : ℕ) → ((j : ℕ) → p (k + j) ≡ true) → every (k + d) p ≡ every k p
unfolding every
every-past p k zero h = let e : k + 0 ≡ k = omega arith in ap (λ (m : ℕ). every m p) e
every-past p k (suc d) h = ap (λ (m : ℕ). every m p) (add-suc k d) ∙ ap₂ ◌&&◌ (every-past p k d h) (h d) ∙ and-true (every k p)

-- behind the last dot nothing is asked
past-dots : (p : ℕ → Bool) (b d dots : ℕ) → dots / 2 ^ b ≡ 0 → every (b + d) (λ k. not (bit k dots) || p k) ≡ every b (λ k. not (bit k dots) || p k)
past-dots p b d dots h = every-past _ b d (λ j. ap (λ (on : Bool). not on || p (b + j)) (none_left b j dots h))

pub dots-end : (p : ℕ → Bool) (w b dots : ℕ) {ok : Bool} → dots < 2 ^ w → dots / 2 ^ b ≡ 0 → ok ≡ every b (λ k. not (bit k dots) || p k)
    → ok ≡ every w (λ k. not (bit k dots) || p k)
dots-end p w b dots {ok} h none e = e ∙ go (leb b w) refl
  where
    asked : ℕ → Bool
    asked n = every n (λ k. not (bit k dots) || p k)

    go : (before : Bool) → leb b w ≡ before → asked b ≡ asked w
    go true l =
        let q : b + (w - b) ≡ w = omega (arith, leb-true b w l) in
        sym (past-dots p b (w - b) dots none) ∙ ap asked q
    go false l =
        let q : b ≡ w + (b - w) = omega (arith, leb-false b w l) in
        ap asked q ∙ past-dots p w (b - w) dots (div-eq_of_lt h)

-- one turn: the dots from b up, as the lowest of the number without those below
every-joined : (p : ℕ → Bool) (b n : ℕ) → every (b + n) p ≡ (every b p && every n (λ k. p (b + k)))
unfolding every
every-joined p b zero = let e : b + 0 ≡ b = omega arith in ap (λ (m : ℕ). every m p) e ∙ sym (and-true (every b p))
every-joined p b (suc n) =
    ap (λ (m : ℕ). every m p) (add-suc b n) ∙ ap (λ (x : Bool). x && p (b + n)) (every-joined p b n) ∙ and_assoc (every b p) (every n (λ k. p (b + k))) (p (b + n))

pub dots-more : (map : ℕ → Bool) (n b from dots : ℕ) {ok low : Bool} → ok ≡ every b (λ k. not (bit k dots) || map (from + k))
    → low ≡ every n (λ k. not (bit k (dots / 2 ^ b)) || map (from + b + k)) → (ok && low) ≡ every (b + n) (λ k. not (bit k dots) || map (from + k))
dots-more map n b from dots h e =
    ap₂ ◌&&◌ h
    (e ∙ every-same n _ _ (λ k l. ap₂ (λ (on there : Bool). not on || there) (sym (bit-from b k dots)) (let q : from + b + k ≡ from + (b + k) = omega arith in ap map q)))
    ∙ sym (every-joined (λ k. not (bit k dots) || map (from + k)) b n)
