-- What is promised of every reading of 32 bits, signed or not (02, No. 10).
use Rattle.std.specs.Prelude.{◌≡◌, ℕ, suc, ◌*◌, ◌^◌, ◌<◌, Bool, true, false, Ok, ℤ, pos, negsuc, Float}
use Rattle.std.specs.Float.{fin, binary64}
use Rattle.std.specs.Float.Ieee.{up, down, unlike, round, of_int}
use Rattle.std.specs.Float.Ieee.Exact.{HasValue}
use Rattle.units.specs.declared.Calibration.{Calibration}
use Rattle.units.specs.Units.{is_finite, product, converted}

-- from -2^31 to 2^32 - 1
abbrev pub IsReading : ℤ → Type 0
IsReading (pos n) = n < 2 ^ 32
IsReading (negsuc k) = k < 2 ^ 31

abbrev pub is_negative : ℤ → Bool
is_negative (pos n) = false
is_negative (negsuc k) = true

abbrev pub magnitude : ℤ → ℕ
magnitude (pos n) = n
magnitude (negsuc k) = suc k

-- 1 and +0
abbrev pub one : Float
one = fin false 1 (pos 0)

abbrev pub zero_of : Float
zero_of = fin false 0 (pos 0)

pub record OfReading (z : ℤ) (c : Calibration) : Type 0 where
  -- "the reading, taken exactly": the double is the reading, and so the product is that of the two exact numbers,
  -- "rounded once"
  pub exact : HasValue (of_int binary64 z) (is_negative z) (magnitude z) 1
  pub rounded_once : (s : Bool) (m : ℕ) (e : ℤ) → c.gain ≡ fin s m e
      → product z c ≡ round binary64 (unlike (is_negative z) s) (magnitude z * (m * up e)) (down e)
  -- "Gain 1 and offset 0 give exactly the reading"
  pub as_read : c.gain ≡ one → c.offset ≡ zero_of → converted z c ≡ Ok (of_int binary64 z)
  -- "a product or sum not finite is refused": what is answered is finite
  pub only-finite : (x : Float) → converted z c ≡ Ok x → is_finite x ≡ true

abbrev pub InUnitsExactly : Type 0
InUnitsExactly = (z : ℤ) (c : Calibration) → IsReading z → OfReading z c
