-- Readings in units (02, No. 10), in the kit's exact account of IEEE 754 (lib.Ieee): `of_int`, `mul` and `add` work out
-- the exact number and round it once, to nearest, ties to even.
use Rattle.std.specs.Prelude.{Bool, true, false, cond, not, ◌&&◌, Result, Ok, Err, ℤ, Float}
use Rattle.std.specs.Float.{nan, inf, fin, binary64}
use Rattle.std.specs.Float.Ieee.{add, mul, of_int}
use Rattle.units.specs.declared.Calibration.{Calibration}
use Rattle.units.specs.declared.unconverted.Unconverted.{Unconverted}
use Rattle.units.specs.declared.unconverted.Unconverted.TheVariants.{Unusable, Infinite}

unfoldable pub is_finite : Float → Bool
is_finite nan = false
is_finite (inf s) = false
is_finite (fin s m e) = true

-- "A gain or offset not finite .. is refused"
unfoldable pub is_usable : Calibration → Bool
is_usable c = is_finite c.gain && is_finite c.offset

-- "the reading, taken exactly, times the gain, rounded once"
unfoldable pub product : ℤ → Calibration → Float
product z c = mul binary64 (of_int binary64 z) c.gain

-- ".. plus the offset, rounded once"
unfoldable pub in_units : ℤ → Calibration → Float
in_units z c = add binary64 (product z c) c.offset

-- "A gain or offset not finite", or "a product or sum not finite": the numbers are in Unconverted
unfoldable pub converted : ℤ → Calibration → Result Float Unconverted
converted z c =
    cond (not (is_usable c)) (Err Unusable)
    (cond (is_finite (product z c) && is_finite (in_units z c)) (Ok (in_units z c))
    (Err Infinite))
