-- How words stand for the answer to a confirmation in units, and what that call promises.
-- Assumes nothing.
use Rattle.std.specs.Prelude.{ℕ, ◌^◌, ◌<◌, ◌/◌, ◌%◌, ◌≡◌, Bool, false, cond, List, [], ◌∷◌, ℤ, pos}
use Rattle.units.specs.Lines.{bits_of}
use Rattle.station.specs.declared.Operation.{Operation}
use Rattle.calibrated.specs.declared.InUnits.{InUnits}
use Rattle.calibrated.specs.declared.InUnits.TheVariants.{Reading as Read, Stopped as Over, Same}
use Rattle.calibrated.specs.Readings.{number_in, Told}
use Rattle.abi.specs.Words.{written, operation_words, answer_words, or_zero}
use Rattle.abi.specs.Told.{is_left, Small}

-- a reading in units: 6, the high and the low half of the double's 64 bits, and the number of accesses
unfoldable pub reading_words : ℕ → ℕ → List ℤ
reading_words bits accesses = pos 6 ∷ pos (bits / 4294967296) ∷ pos (bits % 4294967296) ∷ pos accesses ∷ pos 0 ∷ []

-- a read that is over without one: 5, as every refusal that ends its operation, and the number
unfoldable pub unit_words : InUnits → List ℤ
unit_words (Read x accesses) = reading_words (bits_of x) accesses
unit_words (Over number) = pos 5 ∷ pos number ∷ pos 0 ∷ pos 0 ∷ pos 0 ∷ []
unit_words (Same answer) = answer_words answer

abbrev pub unit_number : InUnits → ℕ
unit_number answer = or_zero (number_in answer)

-- the operation's words after a call: a refusal leaves them, but for one that ends the operation
abbrev pub is_left_in : InUnits → Bool
is_left_in (Read x accesses) = false
is_left_in (Over number) = false
is_left_in (Same answer) = is_left answer

unfoldable pub operation_now : InUnits → Operation → List ℕ → List ℕ
operation_now answer operation words = cond (is_left_in answer) words (written (operation_words operation) words)

-- the numbers of an answer fit a word
abbrev pub SmallIn : InUnits → Type 0
SmallIn (Read x accesses) = accesses < 2 ^ 32
SmallIn (Over number) = number < 2 ^ 32
SmallIn (Same answer) = Small answer

pub record ToldIn (answer : InUnits) (operation : Operation) (lent_operation : List ℕ) (lent_answer : List ℤ)
    (operation_after : List ℕ) (answer_after : List ℤ) (number : ℕ) : Type 0 where
  pub operation-is : operation_after ≡ operation_now answer operation lent_operation
  pub answer-is : answer_after ≡ written (unit_words answer) lent_answer
  pub number_is : number ≡ unit_number answer

-- a confirmation in units with this outcome, lent these words, leaves this record, these marks and these words, and
-- returns this number
pub record TellsIn (o : Told) (operation : List ℕ) (answer : List ℤ)
    (kept marks : List ℕ) (operation_after : List ℕ) (answer_after : List ℤ) (number : ℕ) : Type 0 where
  pub kept-is : kept ≡ o.state.kept
  pub marks-is : marks ≡ o.state.marks
  pub told : ToldIn o.answer o.state.operation operation answer operation_after answer_after number
