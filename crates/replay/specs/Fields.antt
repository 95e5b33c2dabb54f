-- The words behind the first one of a line, as numbers and values.
use Rattle.std.specs.Prelude.{Bool, true, false, cond, List, [], ◌∷◌, ℕ, ◌+◌, ◌^◌, ltb, set, replicate, Option, Some, None, unwrap_or, is_some}
use Rattle.bits.specs.Widths.{widest}
use Rattle.script.specs.Numbers.{number_of}

unfoldable pub is_none : List (List ℕ) → Bool
is_none [] = true
is_none (word ∷ more) = false

-- the only word, unless there is none or another follows
unfoldable pub only_word : List (List ℕ) → Option (List ℕ)
only_word [] = None
only_word (word ∷ []) = Some word
only_word (word ∷ next ∷ more) = None

-- the number, if it is less than a limit
unfoldable pub below_of : ℕ → Option ℕ → Option ℕ
below_of limit (Some n) = cond (ltb n limit) (Some n) None
below_of limit None = None

-- 02, No. 6: "Record, power-on list and access carry up to 32 bits": the number for a register that a word is
abbrev pub carried_of : List ℕ → Option ℕ
carried_of word = below_of (2 ^ widest) (number_of word)

-- how many such numbers the words are, after n others, if each is one
unfoldable pub count_from : List (List ℕ) → ℕ → Option ℕ
count_from [] n = Some n
count_from (word ∷ more) n = elim (is_some (carried_of word)) [ true ↦ count_from more (n + 1) | false ↦ None ]

-- the number for a register that a word is, and 0 where it is none
abbrev pub lent_number : List ℕ → ℕ
lent_number word = unwrap_or (carried_of word) 0

-- the number stored at a place, or nowhere past the end
abbrev pub stored : List ℕ → ℕ → ℕ → List ℕ
stored numbers at n = set numbers at n

-- numbers with those that the words are laid over them, from a place on
unfoldable pub laid : List (List ℕ) → ℕ → List ℕ → List ℕ
laid [] at numbers = numbers
laid (word ∷ more) at numbers = laid more (at + 1) (stored numbers at (lent_number word))

-- the power-on numbers of an opening: zeros where it gives none
unfoldable pub power_on : List (List ℕ) → List ℕ
power_on words = laid words 0 (replicate 64 0)
