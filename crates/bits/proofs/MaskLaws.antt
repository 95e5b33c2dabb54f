-- Masks: what `&` of two numbers says of their bits, for any width.
use Prim.Native.Nat.{ℕ, zero, suc, ◌+◌, ◌/◌, ◌%◌, ◌^◌, ◌<◌, min}
use mathlib.Core.Path.{◌≡◌, refl, sym, ap, ap₂, ◌∙◌}
use mathlib.Core.Bool.{Bool, true, false, ◌&&◌, false≢true}
use native.Mathlib.Omega.{arith}
use native.Mathlib.Nat.{div-div-eq-div-mul, pow-suc, mul_comm, zero-div, lt_of_lt_of_le}
use lib.Pow.{pow_mono}
use lib.Arith.{digits_div, digits_mod}
use lib.Bits.{bit_and, and_step}
use lib.Dec.{eqb}
use Rattle.bits.specs.Bits.{bit}
use Rattle.bits.proofs.BitLaws.{bits-equal}

-- the lowest bit, and the others by halving
pub bit-lowest : (n : ℕ) → bit 0 n ≡ eqb (n % 2) 1
unfolding bit
bit-lowest n = let one : n / 2 ^ 0 ≡ n = omega arith in ap (λ (m : ℕ). eqb (m % 2) 1) one

pub bit-half : (b n : ℕ) → bit (suc b) n ≡ bit b (n / 2)
unfolding bit
bit-half b n =
    ap (λ (m : ℕ). eqb (m % 2) 1) (ap (λ (m : ℕ). n / m) (pow-suc 2 b ∙ mul_comm (2 ^ b) 2) ∙ sym (div-div-eq-div-mul n 2 (2 ^ b)))

digits-both : (m n : ℕ) → m < 2 → n < 2 → (min m n < 2) × (eqb (min m n) 1 ≡ (eqb m 1 && eqb n 1))
digits-both zero zero h g = (omega arith, refl)
digits-both zero (suc zero) h g = (omega arith, refl)
digits-both (suc zero) zero h g = (omega arith, refl)
digits-both (suc zero) (suc zero) h g = (omega arith, refl)
digits-both (suc (suc m)) n h g = absurd (omega arith)
digits-both zero (suc (suc n)) h g = absurd (omega arith)
digits-both (suc zero) (suc (suc n)) h g = absurd (omega arith)

-- a bit of both is a bit of each
pub bit_and_lem : (b m n : ℕ) → bit b (bit_and m n) ≡ (bit b m && bit b n)
bit_and_lem zero m n =
    let two = digits-both (m % 2) (n % 2) (omega arith) (omega arith) in
    bit-lowest (bit_and m n)
    ∙ ap (λ (k : ℕ). eqb (k % 2) 1) (and_step m n)
    ∙ ap (λ (k : ℕ). eqb k 1) (digits_mod (bit_and (m / 2) (n / 2)) two.0)
    ∙ two.1
    ∙ sym (ap₂ ◌&&◌ (bit-lowest m) (bit-lowest n))
bit_and_lem (suc b) m n =
    let two = digits-both (m % 2) (n % 2) (omega arith) (omega arith) in
    bit-half b (bit_and m n)
    ∙ ap (λ (k : ℕ). bit b (k / 2)) (and_step m n)
    ∙ ap (bit b) (digits_div (bit_and (m / 2) (n / 2)) two.0)
    ∙ bit_and_lem b (m / 2) (n / 2)
    ∙ sym (ap₂ ◌&&◌ (bit-half b m) (bit-half b n))

pub bit-none : (b : ℕ) → bit b 0 ≡ false
unfolding bit
bit-none b = ap (λ (k : ℕ). eqb (k % 2) 1) (zero-div (2 ^ b))

-- where the first of two passes, both say what the second says
second : (a b r : Bool) → (a && b) ≡ r → a ≡ true → b ≡ r
second true b r h e = h
second false b r h e = absurd (false≢true e)

-- two masks with no bit in common; one mask inside another
pub bits-apart : (m n : ℕ) → bit_and m n ≡ 0 → (b : ℕ) → bit b m ≡ true → bit b n ≡ false
bits-apart m n h b e = second (bit b m) (bit b n) false (sym (bit_and_lem b m n) ∙ ap (bit b) h ∙ bit-none b) e

pub bits_inside : (m n : ℕ) → bit_and m n ≡ m → (b : ℕ) → bit b m ≡ true → bit b n ≡ true
bits_inside m n h b e = second (bit b m) (bit b n) true (sym (bit_and_lem b m n) ∙ ap (bit b) h ∙ e) e

-- two numbers with the same bits are equal
below_power : (n : ℕ) → n < 2 ^ n
below_power zero = omega arith
below_power (suc n) = omega (arith, below_power n)

pub same_bits : (x y : ℕ) → ((b : ℕ) → bit b x ≡ bit b y) → x ≡ y
same_bits x y e =
    bits-equal (x + y) x y (lt_of_lt_of_le (below_power x) (pow_mono (omega arith))) (lt_of_lt_of_le (below_power y) (pow_mono (omega arith))) (λ b h. e b)
