-- Patterns of 64 bits: every one that is no number is the one NaN of the logic. Assumes nothing.
use Rattle.std.proofs.Common.{◌≡◌, ℕ, Bool, true, false, not, T, Result, Ok, Err, MatchResult, IsOkAnd, sym, refl, ap, ◌∙◌, subst, true≢false}
use mathlib.Core.Bool.{false≢true}
use lib.Ieee.{Float, nan, inf, fin, binary64, of_bits, to_bits, nan_bits, is_nan}
use lib.Ieee.Bits.{nan_bits_is}
use Rattle.units.specs.declared.unconverted.Unconverted.{Unconverted}
use Rattle.units.specs.Lines.{bits_of, told_as}

pub nan_pattern : (b : ℕ) {t : Bool} → t ≡ nan_bits binary64 b → t ≡ true → nan ≡ of_bits binary64 b
unfolding is_nan
nan_pattern b is so = sym (only (of_bits binary64 b) (sym (nan_bits_is binary64 b) ∙ sym is ∙ so))
  where
    only : (x : Float) → is_nan x ≡ true → x ≡ nan
    only nan e = refl
    only (inf s) e = absurd (false≢true e)
    only (fin s m e) h = absurd (false≢true h)

pub number-pattern : (b : ℕ) {t : Bool} → t ≡ nan_bits binary64 b → t ≡ false → T (not (nan_bits binary64 b))
number-pattern b is not_so = subst (λ (t : Bool). T (not t)) (sym (sym is ∙ not_so)) tt

-- a double's pattern, of what is no number and of what is
pub nan-told : (x : Float) → is_nan x ≡ true → 0x7ff8_0000_0000_0000 ≡ bits_of x
unfolding bits_of is_nan
nan-told nan e = refl
nan-told (inf s) e = absurd (false≢true e)
nan-told (fin s m k) e = absurd (false≢true e)

pub number-told : (x : Float) → is_nan x ≡ false → to_bits binary64 x ≡ bits_of x
unfolding bits_of is_nan
number-told nan e = absurd (true≢false e)
number-told (inf s) e = refl
number-told (fin s m k) e = refl

-- a value's pattern, or why there is no value
pub told-is : (answer : Result Float Unconverted) (r : Result ℕ Unconverted)
    → MatchResult answer (λ x. IsOkAnd r (λ y. y ≡ bits_of x)) (λ why. r ≡ Err why) → r ≡ told_as answer
unfolding told_as
told-is (Ok x) (Ok y) h = ap Ok h
told-is (Ok x) (Err why) h = absurd h
told-is (Err why) r h = h
