-- Words of a lent table.
use Rattle.std.specs.Prelude.{ℕ, ◌+◌, ◌*◌, min, List, set}
use Rattle.std.proofs.lemmas.List.Edits.{sets}
use Rattle.tables.specs.Tables.{count_of}

-- a number as a word; one that no word can hold is the greatest (places and counts of a text are far smaller)
unfoldable pub word_of : ℕ → ℕ
word_of number = min number 4294967295

-- words stored one after the other from word `at` on
unfoldable pub written : List ℕ → ℕ → List ℕ → List ℕ
written table at words = sets table at words

-- a table, whose entries are of `stride` words, with one more entry
unfoldable pub appended : ℕ → List ℕ → List ℕ → List ℕ
appended stride table words = set (written table (stride * count_of table + 1) words) 0 (word_of (count_of table + 1))
