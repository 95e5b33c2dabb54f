-- An answer in the words of document 01: the number that a refusal has there, and the values that the other answers
-- give. proofs/Refusals.antt proves `CanGive`, and `Refuses` of the five calls, by the lists of tests in Calls.antt,
-- and of the code that keeps its promise. Assumes nothing.
use Rattle.std.specs.Prelude.{ℕ, ◌≡◌, Bool, true, false, cond, List, [], ◌∷◌, map, eqb, ℤ, pos}
use Rattle.std.proofs.Math.Option.{Option, none, some}
use Rattle.tables.specs.declared.Part.TheVariants.{Read as reading}
use Rattle.tables.specs.View.{Tables, part_no}
use Rattle.station.specs.declared.Answer.{Answer}
use Rattle.station.specs.declared.Answer.TheVariants.{Refused, Stopped, Opened, Offer as Offered, Done, Abandoned as Ended}
use Rattle.station.specs.declared.Operation.{Operation}
use Rattle.station.specs.Calls.{Idle, Reading, Writing, State, Outcome, Test, in_hand_lem, register_taken, opening_tests, read_tests, write_tests, end_tests, confirm_tests, is_in_hand, is_allowed}

-- 20 to 28, 52 and 55 for a refusal, none for the other answers
abbrev pub refusal_of : Answer → Option ℕ
refusal_of (Refused n) = some n
refusal_of (Stopped n r) = some n
refusal_of Opened = none
refusal_of (Offered a) = none
refusal_of (Done value accesses) = none
refusal_of Ended = none

-- "An access gives direction, parameter, offset, byte" (direction 0 reads, 1 writes). "Done gives the value and the
-- number of accesses." A refusal gives none, but for the one "that names the register"
abbrev pub values_of : Answer → List ℤ
values_of (Refused n) = []
values_of (Stopped n r) = pos r ∷ []
values_of Opened = []
values_of (Offered a) = pos (part_no a.direction) ∷ pos a.parameter ∷ pos a.offset ∷ pos a.byte ∷ []
values_of (Done value accesses) = value ∷ pos accesses ∷ []
values_of Ended = []

-- "The lowest number wins": the number of the first test that holds, where they stand in order of number
unfoldable pub lowest_of : List Test → Option ℕ
lowest_of [] = none
lowest_of (test ∷ tests) = cond test.0 (some test.1) (lowest_of tests)

abbrev pub numbers_of : List Test → List ℕ
numbers_of tests = map (λ (test : Test). test.1) tests

-- "An opening can give 20 and 21; a begin 20 to 23 and 25 to 28; a confirm or abandon 20 to 22 and 24; 22 needs an
-- operation in hand"; 02 adds 55 to a begin and 52 to a confirm. They stand in order of number, so the first that holds
-- is the lowest
pub record CanGive (sound : Tables → Bool) (t : Tables) (s : State) : Type 0 where
  pub an_opening : (power : List ℕ) → numbers_of (opening_tests sound t power s) ≡ 20 ∷ 21 ∷ []
  pub a_read : (v : ℕ) → numbers_of (read_tests sound t s v) ≡ 20 ∷ 21 ∷ 22 ∷ 23 ∷ 25 ∷ 26 ∷ 28 ∷ []
  pub a_write : (v : ℕ) (z : ℤ) → numbers_of (write_tests sound t s v z) ≡ 20 ∷ 21 ∷ 22 ∷ 23 ∷ 25 ∷ 26 ∷ 27 ∷ 55 ∷ []
  pub a_confirmation : (byte : ℕ) → numbers_of (confirm_tests sound t s byte) ≡ 20 ∷ 21 ∷ 22 ∷ 24 ∷ 52 ∷ []
  pub an_end : numbers_of (end_tests sound t s) ≡ 20 ∷ 21 ∷ 22 ∷ 24 ∷ []
  pub idle-allowed : is_in_hand s.operation ≡ false → is_allowed t s.operation ≡ true

-- the refusals with which the operation in hand ends
abbrev pub ends : ℕ → Bool
ends n = eqb n 52

-- the register that the read in hand is about to take
abbrev pub register_read : Tables → Operation → ℕ
register_read t Idle = 0
register_read t (Reading v step g) = register_taken t reading v step
register_read t (Writing v step x) = 0

-- a call refuses by these tests: with the lowest number whose test holds, and with none where no test holds. "All leave
-- every record, mark and buffer unchanged and offer no access"; they leave the operation in hand too, but for 52, with
-- which "the operation ends" and which "names the register"
pub record Refuses (t : Tables) (tests : List Test) (s : State) (o : Outcome) : Type 0 where
  pub number : refusal_of o.answer ≡ lowest_of tests
  pub leaves : (n : ℕ) → refusal_of o.answer ≡ some n → o.state ≡ cond (ends n) (in_hand_lem s Idle) s
  pub offers-none : (n : ℕ) → refusal_of o.answer ≡ some n → values_of o.answer ≡ cond (ends n) (pos (register_read t s.operation) ∷ []) []
