-- How a reserved word is found: no part of what it means. A name has a slot, by its length, its first byte and its
-- middle one.
use Rattle.std.specs.Prelude.{List, ℕ, ◌+◌, ◌*◌, ◌/◌, ◌%◌, eqb, length, get_or}
use Rattle.token.specs.Bytes.{first_that}
use Rattle.token.specs.Word.{reserved}

unfoldable pub slot_of : List ℕ → ℕ
slot_of name = (4 * (length name % 16) + 5 * get_or name 0 0 + 2 * get_or name (length name / 2) 0) % 64

-- the index of the reserved word that has this slot; 29 where none has it
unfoldable pub word_in : ℕ → ℕ
word_in slot = first_that (λ word. eqb slot (slot_of word)) reserved 0
