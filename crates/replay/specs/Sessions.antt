-- A station over one text, from call to call: what each line is answered with, and what it leaves. `kept` is the
-- record. How an answer is written is not stated here: the stored scripts hold it.
use Rattle.std.specs.Prelude.{Bool, true, false, cond, ◌||◌, List, ◌++◌, ◌≡◌, ℕ, ◌-◌, ◌^◌, min, length, take, drop, Option, Some, None}
use Rattle.tables.specs.Words.{word_at}
use Rattle.tables.specs.View.{Tables, sound}
use Rattle.station.specs.Calls.{State, opening, begin_read, begin_write, confirm, abandon, Outcome as Came}
use Rattle.station.specs.Promise.{lent}
use Rattle.station.specs.declared.Operation.{Operation}
use Rattle.station.specs.declared.Operation.TheVariants.{Idle}
use Rattle.station.specs.declared.Answer.{Answer}
use Rattle.station.specs.declared.Answer.TheVariants.{Offer, Done, Opened, Abandoned, Refused, Stopped}
use Rattle.rules.specs.Names.{variable_named}
use Rattle.script.specs.Words.{word_of, rest_of, words_of}
use Rattle.replay.specs.Fields.{power_on}
use Rattle.replay.specs.Calls.{call_of}
use Rattle.replay.specs.declared.call.Request.{Request}
use Rattle.replay.specs.declared.call.Request.TheVariants.{Open, Read, Write, Confirm, Abandon, Calibrated}
use Rattle.replay.specs.declared.call.Call.{Call}
use Rattle.replay.specs.declared.call.Call.TheVariants as call
use Rattle.calibrated.specs.declared.InUnits.{InUnits}
use Rattle.calibrated.specs.declared.InUnits.TheVariants.{Reading, Stopped as Over, Same}
use Rattle.calibrated.specs.Readings.{Told, begin_in_units, confirm_in_units}
use Rattle.units.specs.declared.Calibration.{Calibration}
use Rattle.replay.specs.Scales.{Scale, confirmed_in, scale_after}
use Rattle.station.specs.Standing.{tables_of}
use Rattle.replay.specs.declared.session.Description.{Description}
use Rattle.replay.specs.declared.session.Session.{Session}
use Rattle.replay.specs.declared.session.Reply.{Reply}
use Rattle.replay.specs.declared.session.Reply.TheVariants.{Silence, Answered, Looked, Stand, Lent, Held, Unknown}
use Rattle.replay.specs.declared.session.Turn.{Turn}

-- the tables of a description
abbrev pub tables_in : Description → Tables
tables_in d = tables_of d.parameters.now d.registers.now d.variables.now

abbrev pub session_of : Bool → ℕ → ℕ → Operation → Scale → Session
session_of opened held marked operation scale =
    record { opened = opened; bytes = held; marks = marked; operation = operation; scale = scale }

abbrev pub turn_of : Session → Reply → Turn
turn_of session reply = record { session = session; reply = reply }

-- everything is lent, and nothing is in hand
abbrev pub begun : Session
begun = session_of false (2 ^ 64 - 1) (2 ^ 64 - 1) Idle None

-- how many bytes are lent of those that the tables need: no more than was said, and none before the first opening
unfoldable pub lent_of : Bool → ℕ → ℕ → ℕ → ℕ
lent_of there most needed room = cond there (min most (min needed room)) 0

unfoldable pub is_opening : Request → Bool
is_opening (Open count) = true
is_opening (Read v) = false
is_opening (Write v z) = false
is_opening (Confirm b) = false
is_opening Abandon = false
is_opening (Calibrated v c) = false

unfoldable pub is_opened : Answer → Bool
is_opened Opened = true
is_opened (Offer access) = false
is_opened (Done z n) = false
is_opened Abandoned = false
is_opened (Refused n) = false
is_opened (Stopped n r) = false

abbrev pub has_opened : InUnits → Bool
has_opened (Reading x n) = false
has_opened (Over n) = false
has_opened (Same answer) = is_opened answer

-- the station's call
unfoldable pub requested : Tables → List ℕ → State → Request → Came
requested t power s (Open count) = opening sound t (take (min count (length power)) power) s
requested t power s (Read v) = begin_read sound t s v
requested t power s (Write v z) = begin_write sound t s v z
requested t power s (Confirm b) = confirm sound t s b
requested t power s Abandon = abandon sound t s
requested t power s (Calibrated v c) = begin_in_units sound t s v c

-- and what it is told as: a confirmation of a read in units goes by its call
abbrev pub told_by : Tables → List ℕ → State → Request → Option (ℕ × Calibration) → Told
told_by t power s request (Some (b, c)) = confirm_in_units sound t s b c
told_by t power s request None = record { answer = Same (requested t power s request).answer; state = (requested t power s request).state }

abbrev pub told_to : Tables → List ℕ → State → Scale → Request → Told
told_to t power s scale request = told_by t power s request (confirmed_in scale request)

-- what a line leaves and answers
pub record After : Type 0 where
  pub kept : List ℕ
  pub marks : List ℕ
  pub turn : Turn

pub record Leaves (after : After) (kept marks : List ℕ) (turn : Turn) : Type 0 where
  pub turn_is : turn ≡ after.turn
  pub kept-is : kept ≡ after.kept
  pub marks-is : marks ≡ after.marks

-- the session after the station's call, and its answer
abbrev pub answered : Session → Request → InUnits → Operation → Turn
answered session request answer operation =
    turn_of
    (session_of (session.opened || has_opened answer) session.bytes session.marks operation
    (scale_after session.operation operation session.scale request))
    (Answered answer)

-- the call had as much of the record and the marks as is lent; the rest of both stays
abbrev pub left_by : Session → Request → Told → ℕ → ℕ → List ℕ → List ℕ → After
left_by session request o held marked kept marks =
    record {
      kept = o.state.kept ++ drop held kept;
      marks = o.state.marks ++ drop marked marks;
      turn = answered session request o.answer o.state.operation;
    }

abbrev pub held_by : Tables → List ℕ → Session → Request → ℕ
held_by t kept session request =
    lent_of (session.opened || is_opening request) session.bytes (word_at t.registers 0) (length kept)

abbrev pub marked_by : Tables → List ℕ → Session → Request → ℕ
marked_by t marks session request =
    lent_of (session.opened || is_opening request) session.marks (word_at t.variables 0) (length marks)

unfoldable pub asked_with : Tables → List ℕ → List ℕ → List ℕ → Session → Request → ℕ → ℕ → After
asked_with t power kept marks session request held marked =
    left_by session request (told_to t power (lent (take held kept) (take marked marks) session.operation) session.scale request) held marked kept marks

unfoldable pub asked : Tables → List ℕ → List ℕ → List ℕ → Session → Request → After
asked t power kept marks session request =
    asked_with t power kept marks session request (held_by t kept session request) (marked_by t marks session request)

-- the record and the marks stay as they are
abbrev pub unchanged : List ℕ → List ℕ → Session → Reply → After
unchanged kept marks session reply = record { kept = kept; marks = marks; turn = turn_of session reply }

unfoldable pub performed : Tables → List ℕ → List ℕ → List ℕ → List ℕ → Session → Call → After
performed t text line kept marks session call.Nothing = unchanged kept marks session Silence
performed t text line kept marks session (call.Station request) = asked t (power_on (words_of (rest_of line))) kept marks session request
performed t text line kept marks session call.Lookup =
    unchanged kept marks session (Looked (variable_named text t.variables (word_of (rest_of line))))
performed t text line kept marks session call.State = unchanged kept marks session Stand
performed t text line kept marks session (call.LendRecord k) =
    unchanged kept marks (session_of session.opened k session.marks session.operation session.scale) Lent
performed t text line kept marks session (call.LendMarks k) =
    unchanged kept marks (session_of session.opened session.bytes k session.operation session.scale) Lent
performed t text line kept marks session (call.Hold operation) =
    unchanged kept marks (session_of session.opened session.bytes session.marks operation None) Held
performed t text line kept marks session call.Unknown = unchanged kept marks session Unknown

-- what a line is answered with, and what it leaves
unfoldable pub replied : Tables → List ℕ → List ℕ → List ℕ → List ℕ → Session → After
replied t text line kept marks session = performed t text line kept marks session (call_of (words_of line))
