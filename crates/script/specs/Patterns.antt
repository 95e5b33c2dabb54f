-- A pattern of 64 bits, as a double has, written as sixteen hexadecimal digits, highest first.
use Rattle.std.specs.Prelude.{cond, List, [], ◌∷◌, ℕ, zero, suc, ◌+◌, ◌/◌, ◌%◌, eqb, ltb, length, Option, None}
use Rattle.script.specs.Numbers.{figures}

-- read: digits of either case
unfoldable pub pattern_of : List ℕ → Option ℕ
pattern_of word = cond (eqb (length word) 16) (figures 16 word) None

-- written: 0 to 9, then A to F
unfoldable pub figure_of : ℕ → ℕ
figure_of digit = cond (ltb digit 10) (48 + digit) (55 + digit)

-- so many digits of a number, in front of what follows
unfoldable pub digits_before : ℕ → ℕ → List ℕ → List ℕ
digits_before zero n tail = tail
digits_before (suc count) n tail = digits_before count (n / 16) (figure_of (n % 16) ∷ tail)

unfoldable pub digits_of : ℕ → List ℕ
digits_of n = digits_before 16 n []
