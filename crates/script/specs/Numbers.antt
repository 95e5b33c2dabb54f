-- Numbers as a script writes them.
use Rattle.std.specs.Prelude.{Bool, true, false, cond, ◌&&◌, List, [], ◌∷◌, ℕ, zero, suc, ◌+◌, ◌*◌, ◌^◌, ltb, ℤ, pos, negsuc, drop, Option, Some, None}
use Rattle.token.specs.Bytes.{bytes, begins}
use Rattle.token.specs.Number.{digit_of, is_digit}

-- the number after digits that come to v, if the bytes to come are digits too and it stays below 2 ^ 64
unfoldable pub figures_from : ℕ → List ℕ → ℕ → Option ℕ
figures_from radix [] v = Some v
figures_from radix (x ∷ s) v =
    elim (is_digit radix x && ltb (v * radix + digit_of x) (2 ^ 64)) [ true ↦ figures_from radix s (v * radix + digit_of x) | false ↦ None ]

-- at least one digit
unfoldable pub figures : ℕ → List ℕ → Option ℕ
figures radix [] = None
figures radix (x ∷ s) = figures_from radix (x ∷ s) 0

abbrev pub has_prefix : List ℕ → Bool
has_prefix s = begins (bytes "0x") s

-- a word as a natural number: `0x` and hexadecimal digits of either case, or decimal digits
unfoldable pub number_of : List ℕ → Option ℕ
number_of s = elim (has_prefix s) [ true ↦ figures 16 (drop 2 s) | false ↦ figures 10 s ]

-- values are 64 bits, signed: `negsuc k` is -(k + 1)
unfoldable pub natural : Option ℕ → Option ℤ
natural (Some n) = cond (ltb n (2 ^ 63)) (Some (pos n)) None
natural None = None

unfoldable pub negated : Option ℕ → Option ℤ
negated (Some zero) = Some (pos 0)
negated (Some (suc k)) = cond (ltb k (2 ^ 63)) (Some (negsuc k)) None
negated None = None

abbrev pub has_minus : List ℕ → Bool
has_minus s = begins (bytes "-") s

-- a word as a value: a number, perhaps behind a minus
unfoldable pub value_of : List ℕ → Option ℤ
value_of s = elim (has_minus s) [ true ↦ negated (number_of (drop 1 s)) | false ↦ natural (number_of s) ]
