-- "the reading, taken exactly", and "Gain 1 and offset 0 give exactly the reading" (02, No. 10). Assumes nothing.
use Rattle.std.proofs.Common.{◌≡◌, ℕ, suc, ◌+◌, ◌-◌, ◌*◌, ◌^◌, ◌<◌, Bool, true, false, cond, ◌&&◌, T, Ok, ltb, ℤ, pos, negsuc, sym, refl, ap, ◌∙◌, subst, lt_of_lt_of_le, add-zero, le_of_lt, zero-lt-suc, mul_assoc, mul-pos, zero-mul, mul-one, mul_right_comm, arith, lit≤, lt→ltb, pow_mono, shl_lt, le-ltb}
use mathlib.Core.Bool.{false≢true}
use native.Mathlib.Nat.{eq_of_mul-eq-mul_right}
use lib.Ieee.{Float, nan, inf, fin, binary64, emax, low, up, down, round, mul, add, sum, of_int, fits, unlike}
use lib.Ieee.Fits.{round-fits, of_int-fits, down_pos}
use lib.Ieee.Exact.{HasValue, round_exact}
use lib.Ieee.Back.{round_whole, whole_unique}
use lib.Ieee.Scale.{round_same}
use Rattle.units.specs.declared.Calibration.{Calibration}
use Rattle.units.specs.Units.{is_finite, is_usable, product, in_units, converted}
use Rattle.units.proofs.UnitLaws.{answers-finite}
use Rattle.units.specs.Claim.{IsReading, is_negative, magnitude, one, zero_of, InUnitsExactly}

-- ---- the reading is exact
small : (z : ℤ) → IsReading z → magnitude z < 2 ^ 53
small (pos n) h = omega arith
small (negsuc k) h = omega arith

exact-reading : (z : ℤ) → magnitude z < 2 ^ 53 → HasValue (of_int binary64 z) (is_negative z) (magnitude z) 1
unfolding of_int
exact-reading (pos n) h = round_whole binary64 false n (le_of_lt h)
exact-reading (negsuc k) h = round_whole binary64 true (suc k) (le_of_lt h)

-- ---- a fraction that is a whole number of 53 digits is rounded to that number
rescale : (x : Float) (s : Bool) (w l num den : ℕ) → 0 < l → num * l ≡ w * den → HasValue x s w l → HasValue x s num den
rescale nan s w l num den p h v = v
rescale (inf t) s w l num den p h v = v
rescale (fin t m e) s w l num den p h v = (
  v.0,
  eq_of_mul-eq-mul_right l p (m * up e * den) (num * down e)
      (mul_right_comm (m * up e) den l
      ∙ ap (λ (x : ℕ). x * den) v.1
      ∙ mul_right_comm w (down e) den
      ∙ ap (λ (x : ℕ). x * down e) (sym h)
      ∙ mul_right_comm num l (down e)),
)

room : (n : ℕ) → n < 2 ^ 53 → n * 2 ^ low binary64 < 2 ^ (low binary64 + suc (emax binary64))
room n h = lt_of_lt_of_le (shl_lt 53 (low binary64) h) (pow_mono {i = 53 + low binary64} {j = low binary64 + suc (emax binary64)} (lit≤ tt))

scaled : (num den n l : ℕ) → num ≡ n * den → num * l ≡ n * l * den
scaled num den n l h = ap (λ (x : ℕ). x * l) h ∙ mul_right_comm n den l

pub round-to : (s : Bool) (num den n : ℕ) → 0 < den → n < 2 ^ 53 → num ≡ n * den → HasValue (round binary64 s num den) s n 1
round-to s num den n d h e =
    rescale (round binary64 s num den) s num den n 1 d (sym e ∙ sym (mul-one num))
    (round_exact binary64 s num den n (low binary64) d h (room n h) (scaled num den n (2 ^ low binary64) e))

-- ---- times 1
times-one : (x : Float) (s : Bool) (n : ℕ) → n < 2 ^ 53 → T (fits binary64 x) → HasValue x s n 1 → mul binary64 x one ≡ x
unfolding mul
times-one nan s n h f v = elim v [ ]
times-one (inf _) s n h f v = elim v [ ]
times-one (fin t m e) s n h f v =
    whole_unique binary64 _ (fin t m e) t n (round-fits binary64 (unlike t false) (m * up e * (1 * 1)) (down e * 1)) f
    (subst (λ (u : Bool). HasValue (round binary64 u (m * up e * (1 * 1)) (down e * 1)) t n 1) (sym (same_sign t))
    (round-to t (m * up e * (1 * 1)) (down e * 1) n (mul-pos (down_pos e) (zero-lt-suc 0)) h
    (v.1 ∙ ap (λ (y : ℕ). n * y) (sym (mul-one (down e))))))
    (refl, v.1)
  where
    same_sign : (t : Bool) → unlike t false ≡ t
    same_sign true = refl
    same_sign false = refl

-- ---- plus +0: the sum's sign is that of x, where x is no -0
sum-zero : (x : Float) (s : Bool) (n : ℕ) → n < 2 ^ 53 → (s ≡ true → 0 < n) → T (fits binary64 x) → HasValue x s n 1 → add binary64 x zero_of ≡ x
unfolding add sum
sum-zero nan s n h nz f v = elim v [ ]
sum-zero (inf _) s n h nz f v = elim v [ ]
sum-zero (fin true m e) s n h nz f v =
    let a = m * up e * 1 in
    let b = 0 * 1 * down e in
    let c = down e * 1 in
    let is_b : b ≡ 0 = ap (λ (y : ℕ). y * down e) (zero-mul 1) ∙ zero-mul (down e) in
    let a-is : a ≡ n * c = v.1 ∙ ap (λ (y : ℕ). n * y) (sym (mul-one (down e))) in
    let c_pos : 0 < c = mul-pos (down_pos e) (zero-lt-suc 0) in
    let a-pos : 0 < a = subst (λ (y : ℕ). 0 < y) (sym a-is) (mul-pos (nz (sym v.0)) c_pos) in
    let r : round binary64 true a c ≡ fin true m e = whole_unique binary64 (round binary64 true a c) (fin true m e) true n (round-fits binary64 true a c) f (round-to true a c n c_pos h a-is) (refl, v.1) in
    subst (λ (y : ℕ). cond (ltb a y) (round binary64 false (y - a) c) (round binary64 (true && ltb y a) (a - y) c) ≡ fin true m e) (sym is_b)
    (subst (λ (t : Bool). cond t (round binary64 false (0 - a) c) (round binary64 (true && ltb 0 a) (a - 0) c) ≡ fin true m e) (sym (le-ltb a 0 (omega arith)))
    (subst (λ (t : Bool). cond false (round binary64 false (0 - a) c) (round binary64 (true && t) (a - 0) c) ≡ fin true m e) (sym (yes (ltb 0 a) (lt→ltb 0 a a-pos)))
    (subst (λ (y : ℕ). round binary64 true y c ≡ fin true m e) (whole_of a) r)))
  where
    whole_of : (a : ℕ) → a ≡ a - 0
    whole_of a = omega arith

    yes : (t : Bool) → T t → t ≡ true
    yes true u = refl
    yes false u = absurd u
sum-zero (fin false m e) s n h nz f v =
    let a = m * up e * 1 in
    let b = 0 * 1 * down e in
    let c = down e * 1 in
    let is_b : b ≡ 0 = ap (λ (y : ℕ). y * down e) (zero-mul 1) ∙ zero-mul (down e) in
    let a-is : a ≡ n * c = v.1 ∙ ap (λ (y : ℕ). n * y) (sym (mul-one (down e))) in
    let c_pos : 0 < c = mul-pos (down_pos e) (zero-lt-suc 0) in
    let r : round binary64 false a c ≡ fin false m e = whole_unique binary64 (round binary64 false a c) (fin false m e) false n (round-fits binary64 false a c) f (round-to false a c n c_pos h a-is) (refl, v.1) in
    subst (λ (y : ℕ). round binary64 false (a + y) c ≡ fin false m e) (sym is_b) (subst (λ (y : ℕ). round binary64 false y c ≡ fin false m e) (sym (add-zero a)) r)

-- ---- "times the gain, rounded once": the fraction that is rounded is that of the exact numbers
same_fraction : (a k d n l : ℕ) → a ≡ n * l → a * k * d ≡ n * k * (l * d)
same_fraction a k d n l e = ap (λ (x : ℕ). x * k * d) e ∙ ap (λ (x : ℕ). x * d) (mul_right_comm n l k) ∙ mul_assoc (n * k) l d

times_gain : (x : Float) (t : Bool) (n : ℕ) (s : Bool) (m : ℕ) (e : ℤ) → HasValue x t n 1
    → mul binary64 x (fin s m e) ≡ round binary64 (unlike t s) (n * (m * up e)) (down e)
unfolding mul
times_gain nan t n s m e v = elim v [ ]
times_gain (inf _) t n s m e v = elim v [ ]
times_gain (fin u k d) t n s m e v =
    ap (λ (b : Bool). round binary64 (unlike b s) (k * up d * (m * up e)) (down d * down e)) v.0
    ∙ round_same binary64 (unlike t s) (k * up d * (m * up e)) (down d * down e) (n * (m * up e)) (down e)
    (mul-pos (down_pos d) (down_pos e)) (down_pos e)
    (same_fraction (k * up d) (m * up e) (down e) n (down d) (sym (mul-one (k * up d)) ∙ v.1))

-- ---- "Gain 1 and offset 0 give exactly the reading"
module _ (z : ℤ) (c : Calibration) (h : magnitude z < 2 ^ 53) (gain : c.gain ≡ one) (offset : c.offset ≡ zero_of) where
  reading : Float
  reading = of_int binary64 z

  value : HasValue (of_int binary64 z) (is_negative z) (magnitude z) 1
  value = exact-reading z h

  not-zero : (w : ℤ) → is_negative w ≡ true → 0 < magnitude w
  not-zero (pos n) e = absurd (false≢true e)
  not-zero (negsuc k) e = zero-lt-suc k

  product-plain : product z c ≡ of_int binary64 z
  unfolding product
  product-plain = ap (mul binary64 (of_int binary64 z)) gain ∙ times-one (of_int binary64 z) (is_negative z) (magnitude z) h (of_int-fits binary64 z) value

  sum-plain : in_units z c ≡ of_int binary64 z
  unfolding in_units
  sum-plain =
      ap (λ (y : Float). add binary64 y c.offset) product-plain
      ∙ ap (add binary64 (of_int binary64 z)) offset
      ∙ sum-zero (of_int binary64 z) (is_negative z) (magnitude z) h (not-zero z) (of_int-fits binary64 z) value

  has-value-finite : (x : Float) (s : Bool) (n : ℕ) → HasValue x s n 1 → is_finite x ≡ true
  unfolding is_finite
  has-value-finite nan s n v = absurd v
  has-value-finite (inf t) s n v = absurd v
  has-value-finite (fin t m e) s n v = refl

  plain-usable : is_usable c ≡ true
  unfolding is_usable is_finite
  plain-usable = rw (gain, offset)

  gives-reading : converted z c ≡ Ok (of_int binary64 z)
  unfolding converted
  gives-reading = rw (plain-usable, product-plain, sum-plain, has-value-finite _ _ _ value)

pub in_units-exactly : InUnitsExactly
unfolding product
in_units-exactly z c is =
    record {
      exact = exact-reading z (small z is);
      rounded_once = λ (s : Bool) (m : ℕ) (e : ℤ) (g : c.gain ≡ fin s m e).
          ap (mul binary64 (of_int binary64 z)) g ∙ times_gain (of_int binary64 z) (is_negative z) (magnitude z) s m e (exact-reading z (small z is));
      as_read = gives-reading z c (small z is);
      only-finite = answers-finite z c;
    }
