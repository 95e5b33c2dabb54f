-- The zeros at the front of a list, one by one: `zeros` is a walk along the list, so that it computes in as many steps
-- as there are words.
use Prim.Native.Nat.{ℕ, zero, suc, ◌+◌, ◌<◌}
use mathlib.Core.Path.{◌≡◌, refl, sym, ap, ap₂, ◌∙◌}
use mathlib.Core.Bool.{Bool, true, false, ◌&&◌, and-true}
use mathlib.Core.List.{List, [], ◌∷◌}
use lib.Dec.{eqb}
use borrow.Author.Tests.{eqb-true, eq-eqb}
use lib.ListN.{get_or, drop, take}
use lib.Seq.{get_or-drop}
use Rattle.std.specs.List.{list_all}
use Rattle.tables.specs.Every.{every, zeros, zeros_front}
use Rattle.tables.proofs.Laws.{every-at, every-is}

and-three : (a b c : Bool) → (a && (b && c)) ≡ ((a && b) && c)
and-three true b c = refl
and-three false b c = refl

front-more : (n : ℕ) (s : List ℕ) → zeros_front (suc n) s ≡ (zeros_front n s && eqb (get_or s n 0) 0)
unfolding zeros_front
front-more zero [] = refl
front-more zero (x ∷ s) = and-true (eqb x 0)
front-more (suc n) [] = refl
front-more (suc n) (x ∷ s) = ap (λ (b : Bool). eqb x 0 && b) (front-more n s) ∙ and-three (eqb x 0) (zeros_front n s) (eqb (get_or s n 0) 0)

pub zeros-every : (t : List ℕ) (from n : ℕ) → every n (λ k. eqb (get_or t (from + k) 0) 0) ≡ zeros_front n (drop from t)
unfolding every zeros_front
zeros-every t from zero = refl
zeros-every t from (suc n) =
    ap₂ ◌&&◌ (zeros-every t from n) (ap (λ (w : ℕ). eqb w 0) (sym (get_or-drop from t n 0)))
    ∙ sym (front-more n (drop from t))

-- each of the words is zero; and words that are each zero are zeros
pub zeros-at : (t : List ℕ) (from n : ℕ) → zeros t from n ≡ true → (k : ℕ) → k < n → get_or t (from + k) 0 ≡ 0
zeros-at t from n h k l = eqb-true _ _ (every-at n (λ j. eqb (get_or t (from + j) 0) 0) (zeros-every t from n ∙ h) k l)

pub zeros-are : (t : List ℕ) (from n : ℕ) → ((k : ℕ) → k < n → get_or t (from + k) 0 ≡ 0) → zeros t from n ≡ true
zeros-are t from n h = sym (zeros-every t from n) ∙ every-is n _ (λ k l. eq-eqb _ _ (h k l))

-- a run of a list's numbers is zeros where it is all 0
front-all : (n : ℕ) (s : List ℕ) → list_all (λ x. eqb x 0) (take n s) ≡ zeros_front n s
unfolding zeros_front
front-all zero s = refl
front-all (suc n) [] = refl
front-all (suc n) (x ∷ s) = ap (λ (b : Bool). eqb x 0 && b) (front-all n s)

pub zeros-all : (t : List ℕ) (from n : ℕ) → list_all (λ x. eqb x 0) (take n (drop from t)) ≡ zeros t from n
zeros-all t from n = front-all n (drop from t)
