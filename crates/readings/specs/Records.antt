-- A record of the program's input (02, No. 10): "whole 20-byte input records, low byte first (gain, offset, unsigned
-- 32-bit reading)".
use Rattle.std.specs.Prelude.{ℕ, ◌+◌, ◌*◌, List, get_or, Result}
use Rattle.units.specs.declared.unconverted.Unconverted.{Unconverted}
use Rattle.units.specs.Lines.{line_of}

abbrev pub byte_at : List ℕ → ℕ → ℕ
byte_at input at = get_or input at 0

unfoldable pub four_at : List ℕ → ℕ → ℕ
four_at input at = byte_at input at + 256 * byte_at input (at + 1) + 65536 * byte_at input (at + 2) + 16777216 * byte_at input (at + 3)

unfoldable pub eight_at : List ℕ → ℕ → ℕ
eight_at input at = four_at input at + 4294967296 * four_at input (at + 4)

unfoldable pub line_at : List ℕ → ℕ → Result ℕ Unconverted
line_at input at = line_of (eight_at input at) (eight_at input (at + 8)) (four_at input (at + 16))
