-- Laws of the conversion: what its tests decide, and that what it answers is finite. Assumes nothing.
use Rattle.std.proofs.Common.{◌≡◌, Bool, true, false, cond, not, ◌&&◌, ℤ, Ok, Err, refl}
use lib.Ieee.{Float, nan, inf, fin, binary64, add, mul, of_int}
use Rattle.std.specs.Float.{float_is_finite}
use Rattle.units.specs.declared.Calibration.{Calibration}
use Rattle.units.specs.declared.unconverted.Unconverted.TheVariants.{Unusable, Infinite}
use Rattle.units.specs.Units.{is_finite, is_usable, product, in_units, converted}

-- the machine's test
pub finite-is : (x : Float) → float_is_finite x ≡ is_finite x
unfolding float_is_finite is_finite
finite-is nan = refl
finite-is (inf s) = refl
finite-is (fin s m e) = refl

pub not-usable : (z : ℤ) (c : Calibration) → is_usable c ≡ false → converted z c ≡ Err Unusable
unfolding converted
not-usable z c unusable = rw unusable

-- the answer, from the reading as a double and the two tests
pub converted-is : (z : ℤ) (c : Calibration) (x : Float) (p q b : Bool) → is_usable c ≡ true → x ≡ of_int binary64 z
    → p ≡ is_finite (mul binary64 x c.gain) → q ≡ is_finite (add binary64 (mul binary64 x c.gain) c.offset) → (p && q) ≡ b
    → converted z c ≡ cond b (Ok (add binary64 (mul binary64 x c.gain) c.offset)) (Err Infinite)
unfolding converted in_units product
converted-is z c x p q b usable x-is p-is q-is tested = rw (usable, ← tested, p-is, q-is, x-is)

-- what is answered is finite
pub answers-finite : (z : ℤ) (c : Calibration) (x : Float) → converted z c ≡ Ok x → is_finite x ≡ true
unfolding converted
answers-finite z c x e = go (not (is_usable c)) (is_finite (product z c)) (is_finite (in_units z c)) refl e
  where
    go : (u p q : Bool) → is_finite (in_units z c) ≡ q → cond u (Err Unusable) (cond (p && q) (Ok (in_units z c)) (Err Infinite)) ≡ Ok x → is_finite x ≡ true
    go true p q is f = cc
    go false true true is f = cc
    go false true false is f = cc
    go false false q is f = cc
