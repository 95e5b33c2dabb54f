-- Readings in units at the station (02, No. 10): the two calls, over those of document 01, which stay as they are.
use Rattle.std.specs.Prelude.{ℕ, ◌≡◌, Bool, true, false, cond, not, ◌&&◌, ◌||◌, List, [], ◌∷◌, ◌++◌, leb, ltb, Float, ℤ, Result, Ok, Err}
use Rattle.std.proofs.Math.Option.{Option, none, some}
use Rattle.units.specs.declared.Calibration.{Calibration}
use Rattle.units.specs.declared.unconverted.Unconverted.{Unconverted}
use Rattle.units.specs.Unconverted.{number_of}
use Rattle.units.specs.Units.{is_usable, converted}
use Rattle.tables.specs.Tables.{count_of, kind_of}
use Rattle.tables.specs.View.{Tables}
use Rattle.station.specs.declared.Operation.{Operation}
use Rattle.station.specs.declared.Operation.TheVariants.{Idle, Reading, Writing}
use Rattle.station.specs.declared.Outcome as Station
use Rattle.station.specs.declared.Answer.{Answer}
use Rattle.station.specs.declared.Answer.TheVariants.{Refused, Stopped, Opened, Offer as Offered, Done, Abandoned as Ended}
use Rattle.station.specs.Answers.{refusal_of}
use Rattle.station.specs.Calls.{State, Outcome, refused, unless, Test, checked, read_tests, begun_read, confirm}
use Rattle.calibrated.specs.declared.InUnits.{InUnits}
use Rattle.calibrated.specs.declared.InUnits.TheVariants.{Reading as Read, Stopped as Over, Same}
use Rattle.calibrated.specs.declared.OutcomeInUnits as Code

-- ── 53 ──

-- "For a numeric variable": it is there, and an `int` (0) or a `signed int` (1)
unfoldable pub is_numeric : List ℕ → ℕ → Bool
is_numeric variables v = ltb v (count_of variables) && leb (kind_of variables v) 1

-- "A gain or offset not finite, or a bool or mapped type, is refused"
unfoldable pub has_units : List ℕ → ℕ → Calibration → Bool
has_units variables v c = is_usable c && is_numeric variables v

-- ── the answers ──

-- "The answer is the reading .."; "a product or sum not finite is refused after the read is done"
unfoldable pub read_as : Result Float Unconverted → ℕ → InUnits
read_as (Ok x) accesses = Read x accesses
read_as (Err why) accesses = Over (number_of why)

unfoldable pub done_in : ℤ → ℕ → Calibration → InUnits
done_in value accesses c = read_as (converted value c) accesses

-- done in units; every other answer as it is
unfoldable pub in_units_of : Calibration → Answer → InUnits
in_units_of c (Offered a) = Same (Offered a)
in_units_of c (Done value accesses) = done_in value accesses c
in_units_of c Opened = Same Opened
in_units_of c Ended = Same Ended
in_units_of c (Refused n) = Same (Refused n)
in_units_of c (Stopped n r) = Same (Stopped n r)

abbrev pub is_refused : Answer → Bool
is_refused (Offered a) = false
is_refused (Done value accesses) = false
is_refused Opened = false
is_refused Ended = false
is_refused (Refused n) = true
is_refused (Stopped n r) = true

-- the number that document 01 or 02 gives a refusal, and the reading and its accesses where it is done
abbrev pub number_in : InUnits → Option ℕ
number_in (Read x accesses) = none
number_in (Over n) = some n
number_in (Same answer) = refusal_of answer

abbrev pub reading_in : InUnits → Option (Float × ℕ)
reading_in (Read x accesses) = some (x, accesses)
reading_in (Over n) = none
reading_in (Same answer) = none

-- ── the calls ──

pub record Told : Type 0 where
  pub answer : InUnits
  pub state : State

module _ (sound : Tables → Bool) where
  -- ".. is refused before any access is offered": 53, the last of a begin's tests
  abbrev pub unit_tests : Tables → State → ℕ → Calibration → List Test
  unit_tests t s v c = read_tests sound t s v ++ (not (has_units t.variables v c), 53) ∷ []

  abbrev pub begin_in_units : Tables → State → ℕ → Calibration → Outcome
  begin_in_units t s v c = unless (unit_tests t s v c) s (begun_read t s v)

-- the operation in hand has units, by its variable and the calibration that is lent again
abbrev pub units_for : Operation → List ℕ → Calibration → Bool
units_for Idle variables c = true
units_for (Reading v step g) variables c = has_units variables v c
units_for (Writing v step x) variables c = has_units variables v c

-- only a read brings a reading
abbrev pub answer_for : Operation → Calibration → Answer → InUnits
answer_for Idle c answer = Same answer
answer_for (Reading v step g) c answer = in_units_of c answer
answer_for (Writing v step x) c answer = Same answer

-- what a confirmation comes to: 20 to 22, 24 and 52 come before 53, as the lower numbers, and 53 leaves everything as
-- it was
abbrev pub told_for : Bool → State → Calibration → Outcome → Told
told_for units s c o =
    cond (is_refused o.answer || units)
    (record { answer = answer_for s.operation c o.answer; state = o.state })
    (record { answer = Same (Refused 53); state = s })

abbrev pub confirm_in_units : (Tables → Bool) → Tables → State → ℕ → Calibration → Told
confirm_in_units sound t s byte c = told_for (units_for s.operation t.variables c) s c (confirm sound t s byte)

-- ── the code's outcomes ──

abbrev pub outcome_for : Bool → Operation → Calibration → Station.Outcome → Code.OutcomeInUnits
outcome_for units operation c o =
    cond (is_refused o.answer || units)
    (record { operation = o.operation; answer = answer_for operation c o.answer })
    (record { operation = operation; answer = Same (Refused 53) })

abbrev pub is_write : Operation → Bool
is_write Idle = false
is_write (Reading v step g) = false
is_write (Writing v step x) = true

-- 20, 21 or 22
abbrev pub is_early : Answer → Bool
is_early (Refused n) = ltb n 23
is_early (Stopped n r) = false
is_early (Offered a) = false
is_early (Done value accesses) = false
is_early Opened = false
is_early Ended = false

-- a write without units: 20 to 22, or else 53
abbrev pub units_refused : (Tables → Bool) → Tables → State → Outcome
units_refused sound t s = unless (checked sound t s []) s (refused 53 s)

abbrev pub refused_by : Outcome → Code.OutcomeInUnits
refused_by o = record { operation = o.state.operation; answer = Same o.answer }

-- what the confirmation in units promises
pub record MeetsInUnits (o : Told) (kept marks : List ℕ) (given : Code.OutcomeInUnits) : Type 0 where
  pub answer-is : given.answer ≡ o.answer
  pub number_is : number_in given.answer ≡ number_in o.answer
  pub reading-is : reading_in given.answer ≡ reading_in o.answer
  pub operation-is : given.operation ≡ o.state.operation
  pub kept-is : kept ≡ o.state.kept
  pub marks-is : marks ≡ o.state.marks
