-- What the program writes for one record (02, No. 10): "a program over whole 20-byte input records, low byte first
-- (gain, offset, unsigned 32-bit reading), writing 16 hex digits or the refusal a line". Doubles come in and go out as
-- 64 bits.
use Rattle.std.specs.Prelude.{ℕ, Result, Ok, Err, pos, from_bits, to_bits, Float}
use Rattle.std.specs.Float.{nan, inf, fin, binary64}
use Rattle.units.specs.declared.Calibration.{Calibration}
use Rattle.units.specs.declared.unconverted.Unconverted.{Unconverted}
use Rattle.units.specs.Units.{converted}

abbrev pub calibration_of : ℕ → ℕ → Calibration
calibration_of gain offset = record { gain = from_bits binary64 gain; offset = from_bits binary64 offset }

-- the 64 bits of a double; every NaN is one here, and has one pattern
unfoldable pub bits_of : Float → ℕ
bits_of nan = 0x7ff8_0000_0000_0000
bits_of (inf s) = to_bits binary64 (inf s)
bits_of (fin s m e) = to_bits binary64 (fin s m e)

unfoldable pub told_as : Result Float Unconverted → Result ℕ Unconverted
told_as (Ok x) = Ok (bits_of x)
told_as (Err why) = Err why

unfoldable pub line_of : ℕ → ℕ → ℕ → Result ℕ Unconverted
line_of gain offset reading = told_as (converted (pos reading) (calibration_of gain offset))
