-- The lines of a script and their words.
use Rattle.std.specs.Prelude.{Bool, not, ◌||◌, List, [], ◌∷◌, ℕ, zero, suc, ◌-◌, eqb, length, take, drop}
use Prim.Native.Char.{code}
use Rattle.token.specs.Bytes.{run_at}

-- what parts the words of a line
abbrev pub is_blank : ℕ → Bool
is_blank x = eqb x (code " ") || eqb x (code "\t")

-- what a word is made of, and what ends no line
abbrev pub in_word : ℕ → Bool
in_word x = not (is_blank x)

abbrev pub in_line : ℕ → Bool
in_line x = not (eqb x (code "\n"))

-- where the line at a place ends: at its newline, or with the input
abbrev pub line_end : List ℕ → ℕ → ℕ
line_end input at = run_at in_line input at

-- where the first word of a line starts and ends
abbrev pub word_start : List ℕ → ℕ
word_start line = run_at is_blank line 0

abbrev pub word_end : List ℕ → ℕ
word_end line = run_at in_word line (word_start line)

-- the first word, empty where there is none, and what follows it
unfoldable pub word_of : List ℕ → List ℕ
word_of line = take (word_end line - word_start line) (drop (word_start line) line)

unfoldable pub rest_of : List ℕ → List ℕ
rest_of line = drop (word_end line) line

-- a word in front of more; an empty one says that no word is left
unfoldable pub ahead : List ℕ → List (List ℕ) → List (List ℕ)
ahead [] more = []
ahead (x ∷ word) more = (x ∷ word) ∷ more

-- the words of a line, up to a most; it never has more of them than bytes
unfoldable pub words_up_to : ℕ → List ℕ → List (List ℕ)
words_up_to zero line = []
words_up_to (suc most) line = ahead (word_of line) (words_up_to most (rest_of line))

unfoldable pub words_of : List ℕ → List (List ℕ)
words_of line = words_up_to (suc (length line)) line
