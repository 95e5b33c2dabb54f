-- A value in range is carried by bits of its width, and read back from them: so two values in range with the same bits
-- are equal. For any width.
use Prim.Native.Nat.{ℕ, suc, ◌-◌, ◌/◌, ◌^◌, ◌≤◌, ◌<◌}
use mathlib.Core.Path.{◌≡◌, refl, ap}
use mathlib.Core.Bool.{Bool, true, false, cond, ◌&&◌}
use native.Mathlib.Omega.{arith}
use lib.Dec.{ltb, eqb}
use lib.IntN.{ℤ, pos, negsuc}
use lib.Pow.{pow_pos}
use borrow.Author.Tests.{ltb-true, ltb-false, le-ltb, lt-ltb}
use Rattle.bits.specs.Values.{limit_of, in_range, encode, decode}
use Rattle.logic.proofs.Tests.{both}

-- the limit lies below 2 ^ w, for a signed kind at its half
pub limit-most : (kind w : ℕ) → limit_of kind w ≤ 2 ^ w
limit-most kind w = go (eqb kind 1)
  where
    go : (b : Bool) → cond b (2 ^ w / 2) (2 ^ w) ≤ 2 ^ w
    go true = omega arith
    go false = omega arith

signed-half : (kind w : ℕ) → eqb kind 1 ≡ true → limit_of kind w ≡ 2 ^ w / 2
signed-half kind w e = rw e

pub encode-lt : (kind w : ℕ) (z : ℤ) → in_range kind w z ≡ true → encode w z < 2 ^ w
unfolding in_range encode
encode-lt kind w (pos m) h = omega (arith, limit-most kind w, ltb-true m (limit_of kind w) h)
encode-lt kind w (negsuc m) h = omega (arith, pow_pos w)

pub decode-encode : (kind w : ℕ) (z : ℤ) → in_range kind w z ≡ true → decode kind w (encode w z) ≡ z
unfolding in_range encode decode
decode-encode kind w (pos m) h = rw h
decode-encode kind w (negsuc m) h =
    let signed = both (eqb kind 1) _ h in
    let half = signed-half kind w signed.0 in
    let small = ltb-true m (limit_of kind w) signed.1 in
    let back : 2 ^ w - 1 - (2 ^ w - 1 - m) ≡ m = omega arith in
    rw (le-ltb (2 ^ w - 1 - m) (limit_of kind w) (omega arith)) (ap negsuc back)

-- every pattern carries a value in range (of a width that is not 0), and is the pattern of that value
pub decode-in_range : (kind w x : ℕ) → x < 2 ^ suc w → in_range kind (suc w) (decode kind (suc w) x) ≡ true
unfolding in_range decode
decode-in_range kind w x h = go (ltb x (limit_of kind (suc w))) refl
  where
    low : (b : Bool) → cond b (2 ^ suc w / 2) (2 ^ suc w) ≤ x → (b && ltb (2 ^ suc w - 1 - x) (cond b (2 ^ suc w / 2) (2 ^ suc w))) ≡ true
    low true l = lt-ltb (2 ^ suc w - 1 - x) (2 ^ suc w / 2) (omega arith)
    low false l = absurd (omega arith)

    go : (b : Bool) → ltb x (limit_of kind (suc w)) ≡ b → in_range kind (suc w) (cond b (pos x) (negsuc (2 ^ suc w - 1 - x))) ≡ true
    go true e = e
    go false e = low (eqb kind 1) (ltb-false x (limit_of kind (suc w)) e)

pub encode-decode : (kind w x : ℕ) → x < 2 ^ w → encode w (decode kind w x) ≡ x
unfolding encode decode
encode-decode kind w x h = go (ltb x (limit_of kind w))
  where
    go : (b : Bool) → encode w (cond b (pos x) (negsuc (2 ^ w - 1 - x))) ≡ x
    go true = refl
    go false = omega arith
