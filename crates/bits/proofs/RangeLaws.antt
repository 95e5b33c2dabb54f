-- A value is exactly one of three: below the least of its type, in range, or above the greatest. For any kind and any
-- width.
use Prim.Native.Nat.{ℕ, zero, suc}
use mathlib.Core.Path.{◌≡◌, refl, sym, ap, ap₂, ◌∙◌}
use mathlib.Core.Bool.{Bool, true, false, not, cond, ◌&&◌}
use lib.Dec.{leb, ltb, eqb, leb-suc-zero}
use lib.IntN.{ℤ, pos, negsuc, neg_ℤ, pred_ℤ}
use lib.Signed.{lt_z, le_z}
use borrow.Author.Tests.{not-true, lt-leb, le-leb, ltb-true, ltb-false}
use Rattle.bits.specs.Values.{limit_of, least, greatest, in_range, is_below_lem, is_above}
use Rattle.logic.proofs.Tests.{both}

pub leb-not : (a b : ℕ) → leb a b ≡ not (ltb b a)
leb-not a b = go (ltb b a) refl
  where
    go : (d : Bool) → ltb b a ≡ d → leb a b ≡ not d
    go true e = lt-leb a b (ltb-true b a e)
    go false e = le-leb a b (ltb-false b a e)

-- ── a natural number is below no least, a negative one above no greatest; so the sign tells which of the two a value
-- outside is ──

pub below-natural : (kind w m : ℕ) → is_below_lem kind w (pos m) ≡ false
unfolding is_below_lem
below-natural kind w m = go (eqb kind 1) (limit_of kind w)
  where
    go : (signed : Bool) (limit : ℕ) → lt_z (pos m) (cond signed (neg_ℤ (pos limit)) (pos 0)) ≡ false
    go true zero = leb-suc-zero m
    go true (suc k) = refl
    go false limit = leb-suc-zero m

pub below-negative : (kind w m : ℕ) → is_below_lem kind w (negsuc m) ≡ not (in_range kind w (negsuc m))
unfolding is_below_lem in_range
below-negative kind w m = go (eqb kind 1) (limit_of kind w)
  where
    go : (signed : Bool) (limit : ℕ) → lt_z (negsuc m) (cond signed (neg_ℤ (pos limit)) (pos 0)) ≡ not (signed && ltb m limit)
    go true zero = ap not (sym (leb-suc-zero m))
    go true (suc k) = leb-not (suc k) m
    go false limit = refl

pub above-natural : (kind w m : ℕ) → is_above kind w (pos m) ≡ not (in_range kind w (pos m))
unfolding is_above in_range
above-natural kind w m = go (limit_of kind w)
  where
    go : (limit : ℕ) → lt_z (pred_ℤ (pos limit)) (pos m) ≡ not (ltb m limit)
    go zero = ap not (sym (leb-suc-zero m))
    go (suc k) = leb-not (suc k) m

pub above-negative : (kind w m : ℕ) → is_above kind w (negsuc m) ≡ false
unfolding is_above
above-negative kind w m = go (limit_of kind w)
  where
    go : (limit : ℕ) → lt_z (pred_ℤ (pos limit)) (negsuc m) ≡ false
    go zero = leb-suc-zero m
    go (suc k) = refl

-- ── the three ──

abbrev pub exactly_one : Bool → Bool → Bool → Bool
exactly_one a b c = cond a (not b && not c) (cond b (not c) c)

pub one_of_three : (kind w : ℕ) (z : ℤ) → exactly_one (is_below_lem kind w z) (in_range kind w z) (is_above kind w z) ≡ true
one_of_three kind w (pos m) = rw (below-natural kind w m, above-natural kind w m) (go (in_range kind w (pos m)))
  where
    go : (b : Bool) → exactly_one false b (not b) ≡ true
    go true = refl
    go false = refl
one_of_three kind w (negsuc m) = rw (below-negative kind w m, above-negative kind w m) (go (in_range kind w (negsuc m)))
  where
    go : (b : Bool) → exactly_one (not b) b false ≡ true
    go true = refl
    go false = refl

-- in range is: neither below nor above, and so from the least to the greatest
middle : (a b c : Bool) → exactly_one a b c ≡ true → b ≡ (not a && not c)
middle true true c e = sym e
middle true false c e = refl
middle false true true e = sym e
middle false true false e = refl
middle false false true e = refl
middle false false false e = e

pub in_range-is : (kind w : ℕ) (z : ℤ) → in_range kind w z ≡ (not (is_below_lem kind w z) && not (is_above kind w z))
in_range-is kind w z = middle (is_below_lem kind w z) (in_range kind w z) (is_above kind w z) (one_of_three kind w z)

pub least-to-greatest : (kind w : ℕ) (z : ℤ) → in_range kind w z ≡ (le_z (least kind w) z && le_z z (greatest kind w))
unfolding is_below_lem is_above
least-to-greatest kind w z = in_range-is kind w z ∙ sym (ap₂ ◌&&◌ (order (least kind w) z) (order z (greatest kind w)))
  where
    order : (a b : ℤ) → le_z a b ≡ not (lt_z b a)
    order (pos a) (pos b) = leb-not a b
    order (pos a) (negsuc b) = refl
    order (negsuc a) (pos b) = refl
    order (negsuc a) (negsuc b) = leb-not b a

pub neither : (kind w : ℕ) (z : ℤ) → is_below_lem kind w z ≡ false → is_above kind w z ≡ false → in_range kind w z ≡ true
neither kind w z low high = rw (in_range-is kind w z, low, high)

pub not-outside : (kind w : ℕ) (z : ℤ) → in_range kind w z ≡ true → (is_below_lem kind w z ≡ false) × (is_above kind w z ≡ false)
not-outside kind w z h =
    let (low, high) = both (not (is_below_lem kind w z)) _ (sym (in_range-is kind w z) ∙ h) in
    (not-true _ low, not-true _ high)
