-- The laws of a bit and of a number from its bits, once for any width.
use Prim.Native.Nat.{ℕ, zero, suc, ◌+◌, ◌-◌, ◌*◌, ◌/◌, ◌%◌, ◌^◌, ◌≤◌, ◌<◌}
use mathlib.Core.Path.{◌≡◌, refl, sym, ap, ap₂, ◌∙◌}
use mathlib.Core.Bool.{Bool, true, false}
use mathlib.Core.Logic.{⊎_elim}
use native.Mathlib.Omega.{arith}
use native.Mathlib.Numerals.{add-one, one-add}
use native.Mathlib.Nat.{mod-lt, mod-one, mod-eq_of_lt, div-eq_of_lt, zero-mod, pow-suc, zero-add, mul_assoc, add_comm, add-mul-div_right, add-mul-mod_self_right, zero-lt-suc, lt_of_lt_of_le, eq-or-lt_of_le, le_of_suc-le-suc, not-suc-le-zero}
use lib.Pow.{pow_pos, pow_mono, pow-add, mod-pow-add}
use lib.Dec.{eqb}
use Rattle.bits.specs.Bits.{bit, digit, number_of}

digit_lt : (d : Bool) → digit d < 2
digit_lt true = omega arith
digit_lt false = omega arith

digit-is : (d : Bool) → eqb (digit d) 1 ≡ d
digit-is true = refl
digit-is false = refl

digit_of_lem : (n : ℕ) → n < 2 → digit (eqb n 1) ≡ n
digit_of_lem zero h = refl
digit_of_lem (suc zero) h = refl
digit_of_lem (suc (suc n)) h = absurd (omega arith)

-- a number of w bits has no bit from w up
pub bit-over : (w b n : ℕ) → n < 2 ^ w → w ≤ b → bit b n ≡ false
unfolding bit
bit-over w b n h l = ap (λ (q : ℕ). eqb (q % 2) 1) (div-eq_of_lt (lt_of_lt_of_le h (pow_mono l))) ∙ ap (λ (r : ℕ). eqb r 1) (zero-mod 2)

-- one turn of a loop that makes a number, its bits from the lowest up
pub number-none : (f : ℕ → Bool) → number_of 0 f ≡ 0
unfolding number_of
number-none f = refl

pub number_more : (w : ℕ) (f : ℕ → Bool) → number_of (w + 1) f ≡ number_of w f + digit (f w) * 2 ^ w
unfolding number_of
number_more w f = ap (λ (k : ℕ). number_of k f) (add-one w)

pub number-turn : (w : ℕ) (f : ℕ → Bool) {number next : ℕ} {on : Bool} → number ≡ number_of w f → on ≡ f w
    → next ≡ number + digit on * 2 ^ w → next ≡ number_of (w + 1) f
number-turn w f {number} {next} {on} h e is = is ∙ rw (h, e) (sym (number_more w f))

-- a number of w bits is below 2 ^ w
pub number_lt : (w : ℕ) (f : ℕ → Bool) → number_of w f < 2 ^ w
unfolding number_of
number_lt zero f = omega arith
number_lt (suc w) f = go (f w) (number_lt w f)
  where
    go : (d : Bool) → number_of w f < 2 ^ w → number_of w f + digit d * 2 ^ w < 2 ^ suc w
    go true h = omega arith
    go false h = omega arith

-- what is added from bit b + 1 up leaves bit b; what is added at bit w of a number of w bits is that bit
power-next : (n : ℕ) → 2 ^ (n + 1) ≡ 2 ^ n * 2
power-next n = ap (λ (k : ℕ). 2 ^ k) (add-one n) ∙ pow-suc 2 n

higher : (d j b : ℕ) → d * 2 ^ (j + 1 + b) ≡ d * 2 ^ j * 2 * 2 ^ b
higher d j b = rw (pow-add 2 (j + 1) b, power-next j, ← mul_assoc, ← mul_assoc)

bit_below : (x d j b : ℕ) → bit b (x + d * 2 ^ (j + 1 + b)) ≡ bit b x
unfolding bit
bit_below x d j b =
    ap (λ (y : ℕ). eqb ((x + y) / 2 ^ b % 2) 1) (higher d j b)
    ∙ ap (λ (y : ℕ). eqb (y % 2) 1) (add-mul-div_right x (d * 2 ^ j * 2) (pow_pos b))
    ∙ ap (λ (y : ℕ). eqb y 1) (add-mul-mod_self_right (x / 2 ^ b) (d * 2 ^ j) 2)

bit-top : (x w : ℕ) (d : Bool) → x < 2 ^ w → bit w (x + digit d * 2 ^ w) ≡ d
unfolding bit
bit-top x w d h =
    ap (λ (y : ℕ). eqb (y % 2) 1) (add-mul-div_right x (digit d) (pow_pos w) ∙ ap (λ (y : ℕ). y + digit d) (div-eq_of_lt h) ∙ zero-add (digit d))
    ∙ ap (λ (y : ℕ). eqb y 1) (mod-eq_of_lt (digit_lt d))
    ∙ digit-is d

-- the bits of a number that bits make are those bits
pub bit-number : (w : ℕ) (f : ℕ → Bool) (b : ℕ) → b < w → bit b (number_of w f) ≡ f b
unfolding number_of
bit-number zero f b h = absurd (not-suc-le-zero h)
bit-number (suc w) f b h =
    ⊎_elim
    (λ (e : b ≡ w). rw e (bit-top (number_of w f) w (f w) (number_lt w f)))
    (λ (l : b < w).
    let e : w ≡ w - (b + 1) + 1 + b = omega arith in
    ap (λ (k : ℕ). bit b (number_of w f + digit (f w) * 2 ^ k)) e
    ∙ bit_below (number_of w f) (digit (f w)) (w - (b + 1)) b
    ∙ bit-number w f b l)
    (eq-or-lt_of_le (le_of_suc-le-suc h))

-- equal bits make equal numbers; no bits make 0
pub number_same : (w : ℕ) (f g : ℕ → Bool) → ((b : ℕ) → b < w → f b ≡ g b) → number_of w f ≡ number_of w g
unfolding number_of
number_same zero f g h = refl
number_same (suc w) f g h =
    ap₂ (λ (n : ℕ) (d : Bool). n + digit d * 2 ^ w) (number_same w f g (λ b l. h b (omega arith))) (h w (omega arith))

pub number-zero : (w : ℕ) → number_of w (λ b. false) ≡ 0
unfolding number_of
number-zero zero = refl
number-zero (suc w) = omega (arith, number-zero w)

-- the number of a number's first w bits
pub number-low : (w x : ℕ) → number_of w (λ b. bit b x) ≡ x % 2 ^ w
unfolding number_of bit
number-low zero x = sym (mod-one x)
number-low (suc w) x =
    ap₂ (λ (n d : ℕ). n + d * 2 ^ w) (number-low w x) (digit_of_lem (x / 2 ^ w % 2) (mod-lt (x / 2 ^ w) (zero-lt-suc 1)))
    ∙ add_comm (x % 2 ^ w) (x / 2 ^ w % 2 * 2 ^ w)
    ∙ sym (mod-pow-add x 1 w)
    ∙ ap (λ (k : ℕ). x % 2 ^ k) (one-add w)

-- a number of w bits is the number of its bits; two with equal bits are equal
pub number-bits : (w x : ℕ) → x < 2 ^ w → number_of w (λ b. bit b x) ≡ x
number-bits w x h = number-low w x ∙ mod-eq_of_lt h

pub bits-equal : (w x y : ℕ) → x < 2 ^ w → y < 2 ^ w → ((b : ℕ) → b < w → bit b x ≡ bit b y) → x ≡ y
bits-equal w x y hx hy e = sym (number-bits w x hx) ∙ number_same w (λ b. bit b x) (λ b. bit b y) e ∙ number-bits w y hy
