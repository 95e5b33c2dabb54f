-- What a call at the C face promises: the outcome that document 01 gives, told in words.
-- Assumes nothing.
use Rattle.std.specs.Prelude.{ℕ, ◌^◌, ◌<◌, ◌≡◌, Bool, true, false, cond, List, ℤ}
use Rattle.station.specs.declared.Operation.{Operation}
use Rattle.station.specs.declared.Answer.{Answer}
use Rattle.station.specs.declared.Answer.TheVariants.{Refused, Stopped, Opened, Offer as Offered, Done, Abandoned as Ended}
use Rattle.station.specs.Calls.{Outcome}
use Rattle.abi.specs.Words.{written, operation_words, answer_words, refusal_number}

-- the operation's words after a call: a refusal leaves them as they were, whatever they held, but for one that stops
-- the operation
abbrev pub is_left : Answer → Bool
is_left (Refused number) = true
is_left (Stopped number register) = false
is_left Opened = false
is_left (Offered access) = false
is_left (Done value accesses) = false
is_left Ended = false

unfoldable pub operation_left : Answer → Operation → List ℕ → List ℕ
operation_left answer operation words = cond (is_left answer) words (written (operation_words operation) words)

-- a call with this outcome, lent these words for the operation and the answer, leaves this record, these marks and
-- these words, and returns this number
pub record Tells (o : Outcome) (operation : List ℕ) (answer : List ℤ)
    (kept marks : List ℕ) (operation_after : List ℕ) (answer_after : List ℤ) (number : ℕ) : Type 0 where
  pub kept-is : kept ≡ o.state.kept
  pub marks-is : marks ≡ o.state.marks
  pub operation-is : operation_after ≡ operation_left o.answer o.state.operation operation
  pub answer-is : answer_after ≡ written (answer_words o.answer) answer
  pub number_is : number ≡ refusal_number o.answer

-- the part of it that is told in words
pub record Told (answer : Answer) (operation : Operation) (lent_operation : List ℕ) (lent_answer : List ℤ)
    (operation_after : List ℕ) (answer_after : List ℤ) (number : ℕ) : Type 0 where
  pub operation-is : operation_after ≡ operation_left answer operation lent_operation
  pub answer-is : answer_after ≡ written (answer_words answer) lent_answer
  pub number_is : number ≡ refusal_number answer

-- the numbers of an answer fit a word
abbrev pub Small : Answer → Type 0
Small (Refused number) = number < 2 ^ 32
Small (Stopped number register) = (number < 2 ^ 32) × (register < 2 ^ 32)
Small Opened = Unit {0}
Small (Offered access) = (access.parameter < 2 ^ 32) × (access.offset < 2 ^ 32)
Small (Done value accesses) = accesses < 2 ^ 32
Small Ended = Unit {0}
