-- What a mask's numbers are, and that they fit into a register of any width.
use Prim.Native.Nat.{ℕ, ◌+◌, ◌-◌, ◌≤◌, ◌<◌, ◌^◌}
use native.Mathlib.Omega.{arith}
use native.Mathlib.Nat.{lt_of_lt_of_le, min-le_left}
use mathlib.Core.Path.{◌≡◌, refl, sym, ap, ap₂, ◌∙◌}
use mathlib.Core.Bool.{Bool, true, false, ◌&&◌, and-false}
use mathlib.Core.List.{List}
use lib.Dec.{eqb}
use lib.Bits.{bit_and, and_lt}
use lib.ListN.{get_or}
use lib.Pow.{pow_mono, pow_pos}
use borrow.Author.Tests.{eqb-true}
use Rattle.bits.specs.Bits.{bit}
use Rattle.bits.proofs.BitLaws.{number_lt, bit-number, bits-equal}
use Rattle.bits.proofs.MaskLaws.{bit_and_lem, bit-none, same_bits}
use Rattle.bits.specs.Widths.{widest}
use Rattle.std.specs.Prelude.{Option, Some, None}
use Rattle.rules.specs.declared.mask.Mask.{Mask}
use Rattle.rules.specs.Names.{name_of}
use Rattle.rules.specs.Mask.{is_dot, is_fixed, is_one, bits_held, elements, mask_of, all_dots, mask_at}

-- ---- masks
-- no byte is a dot and fixed; what is 1 is fixed
dot-apart : (x : ℕ) → (is_dot x && is_fixed x) ≡ false
dot-apart x = go (eqb x 46) refl
  where
    go : (b : Bool) → eqb x 46 ≡ b → (is_dot x && is_fixed x) ≡ false
    go true e = rw (eqb-true x 46 e)
    go false e = rw e

one-fixed : (x : ℕ) → (is_one x && is_fixed x) ≡ is_one x
one-fixed x = go (eqb x 49) refl
  where
    go : (b : Bool) → eqb x 49 ≡ b → (is_one x && is_fixed x) ≡ is_one x
    go true e = rw (eqb-true x 49 e)
    go false e = rw e

-- the numbers of a mask, for a register of w bits
pub record Fitting (w : ℕ) (mask : Mask) : Type 0 where
  pub dots-small : mask.dots < 2 ^ w
  pub fixed-small : mask.fixed < 2 ^ w
  pub dots-apart : bit_and mask.dots mask.fixed ≡ 0
  pub ones-inside : bit_and mask.ones mask.fixed ≡ mask.ones

pub held-inside : (w : ℕ) → bits_held w ≤ w
unfolding bits_held
held-inside w = min-le_left w widest

module _ (w : ℕ) (mask : List ℕ) where
  abbrev at : ℕ → ℕ
  at b = get_or mask (w - b) 0

  small : (which : ℕ → Bool) → elements w mask which < 2 ^ bits_held w
  unfolding elements
  small which = number_lt (bits_held w) (λ b. which (at b))

  element_bit : (which : ℕ → Bool) (b : ℕ) → b < bits_held w → bit b (elements w mask which) ≡ which (at b)
  unfolding elements
  element_bit which b l = bit-number (bits_held w) (λ c. which (at c)) b l

  both_bits : (m n : ℕ → Bool) (b : ℕ) → b < bits_held w → bit b (bit_and (elements w mask m) (elements w mask n)) ≡ (m (at b) && n (at b))
  both_bits m n b l = bit_and_lem b (elements w mask m) (elements w mask n) ∙ ap₂ ◌&&◌ (element_bit m b l) (element_bit n b l)

  apart : bit_and (elements w mask is_dot) (elements w mask is_fixed) ≡ 0
  apart =
      bits-equal (bits_held w) _ 0 (and_lt (bits_held w) _ _ (small is_dot) (small is_fixed)) (pow_pos (bits_held w))
      (λ b l. both_bits is_dot is_fixed b l ∙ dot-apart (at b) ∙ sym (bit-none b))

  inside : bit_and (elements w mask is_one) (elements w mask is_fixed) ≡ elements w mask is_one
  inside =
      bits-equal (bits_held w) _ _ (and_lt (bits_held w) _ _ (small is_one) (small is_fixed)) (small is_one)
      (λ b l. both_bits is_one is_fixed b l ∙ one-fixed (at b) ∙ sym (element_bit is_one b l))

  mask-fitting : Fitting w (mask_of w mask)
  unfolding mask_of
  mask-fitting =
      let wide : 2 ^ bits_held w ≤ 2 ^ w = pow_mono (held-inside w) in
      record { dots-small = lt_of_lt_of_le (small is_dot) wide; fixed-small = lt_of_lt_of_le (small is_fixed) wide; dots-apart = apart; ones-inside = inside }

-- 0 has no bit in common with another number
and-nothing : (n : ℕ) → bit_and n 0 ≡ 0
and-nothing n = same_bits (bit_and n 0) 0 (λ b. bit_and_lem b n 0 ∙ ap (λ (x : Bool). bit b n && x) (bit-none b) ∙ and-false (bit b n) ∙ sym (bit-none b))

dots-fitting : (w : ℕ) → Fitting w (all_dots w)
unfolding all_dots
dots-fitting w =
    let wide : 2 ^ bits_held w ≤ 2 ^ w = pow_mono (held-inside w) in
    record { dots-small = omega (arith, pow_pos (bits_held w), wide); fixed-small = pow_pos w; dots-apart = and-nothing (2 ^ bits_held w - 1); ones-inside = and-nothing 0 }

pub at-fitting : (text : List ℕ) (w : ℕ) (quote : Option ℕ) → Fitting w (mask_at text w quote)
unfolding mask_at
at-fitting text w (Some quote) = mask-fitting w (name_of text quote (w + 1))
at-fitting text w None = dots-fitting w
