-- What could stand at a place of refusal 4: each word with which the text before the place still begins some text of
-- the grammar. `reading` is syntax's definition of what reading a text comes to.
use Rattle.std.specs.Prelude.{ℕ, ◌+◌, Bool, true, ◌&&◌, ◌||◌, not, List, ◌++◌, eqb, leb, length, take, Ok, Err}
use Rattle.token.specs.Bytes.{bytes}
use Rattle.syntax.specs.Step.{Step}
use Rattle.syntax.specs.Text.{reading}

-- a reading goes on past the token at a place: 4 does not refuse it there
abbrev pub goes_past : Step → ℕ → Bool
goes_past (Ok next) place = true
goes_past (Err refusal) place = not (eqb (refusal.number) 4) || not (eqb refusal.place place)

-- the text before a place, a blank and a word are read past the blank; for texts and words of lawful length
unfoldable pub could_stand : List ℕ → ℕ → List ℕ → Bool
could_stand text place word =
    leb (length (take place text)) 8192 && leb (length word) 64 &&
    goes_past (reading ((take place text ++ bytes " ") ++ word)).step (length (take place text) + 1)
