-- What a line of a script asks for, by its words: rust/second/README.md, "Scripts".
use Rattle.std.specs.Prelude.{Bool, true, false, cond, ◌&&◌, List, [], ◌∷◌, ℕ, ◌-◌, ◌^◌, eqb, ℤ, Option, Some, None, unwrap_or, option_and_then}
use Prim.Native.Char.{code}
use Rattle.token.specs.Bytes.{bytes, same}
use Rattle.script.specs.Numbers.{number_of, value_of}
use Rattle.script.specs.Patterns.{pattern_of}
use Rattle.units.specs.Lines.{calibration_of}
use Rattle.station.specs.declared.Operation.{Operation}
use Rattle.station.specs.declared.Operation.TheVariants.{Idle, Reading, Writing}
use Rattle.replay.specs.declared.call.Request.{Request}
use Rattle.replay.specs.declared.call.Request.TheVariants.{Open, Read, Write, Confirm, Abandon, Calibrated}
use Rattle.replay.specs.declared.call.Call.{Call}
use Rattle.replay.specs.declared.call.Call.TheVariants.{Nothing, Station, Lookup, State, LendRecord, LendMarks, Hold, Unknown}
use Rattle.replay.specs.Fields.{is_none, only_word, carried_of, count_from}

-- the call of the first test that holds, if one does
unfoldable pub chosen : List (Bool × Option Call) → Option Call
chosen [] = None
chosen (entry ∷ more) = cond entry.0 entry.1 (chosen more)

-- what the only word is, if it is that
abbrev pub only : {A : Type 0} → (List ℕ → Option A) → List (List ℕ) → Option A
only read words = option_and_then read (only_word words)

-- a call that nothing may follow
unfoldable pub bare_of : List (List ℕ) → Call → Option Call
bare_of words call = cond (is_none words) (Some call) None

-- a call of the station that needs a number: `open N0 N1 ..` how many, `read V` the variable, `confirm N` what was read
unfoldable pub with_number : Option ℕ → (ℕ → Request) → Option Call
with_number (Some n) request = Some (Station (request n))
with_number None request = None

-- `lookup NAME`; without a name it asks for the empty one
unfoldable pub lookup_of : List (List ℕ) → Option Call
lookup_of [] = Some Lookup
lookup_of (name ∷ words) = bare_of words Lookup

-- `write V VALUE`
unfoldable pub writing : Option ℕ → Option ℤ → Option Call
writing (Some v) (Some z) = Some (Station (Write v z))
writing (Some v) None = None
writing None z = None

unfoldable pub write_of : List (List ℕ) → Option Call
write_of [] = None
write_of (v ∷ words) = writing (number_of v) (only value_of words)

-- `calibrated V GAIN OFFSET`, gain and offset as sixteen hexadecimal digits
unfoldable pub calibrating : Option ℕ → Option ℕ → Option ℕ → Option Call
calibrating (Some v) (Some gain) (Some offset) = Some (Station (Calibrated v (calibration_of gain offset)))
calibrating (Some v) (Some gain) None = None
calibrating (Some v) None offset = None
calibrating None gain offset = None

unfoldable pub calibrated_of : List (List ℕ) → Option Call
calibrated_of [] = None
calibrated_of (v ∷ []) = None
calibrated_of (v ∷ gain ∷ words) = calibrating (number_of v) (pattern_of gain) (only pattern_of words)

-- `lend record K`, `lend marks K`; all of it is 2 ^ 64 - 1 bytes, more than there are
unfoldable pub is_all_lem : List (List ℕ) → Bool
is_all_lem [] = false
is_all_lem (word ∷ words) = same word (bytes "all") && is_none words

unfoldable pub amount_of : List (List ℕ) → Option ℕ
amount_of words = cond (is_all_lem words) (Some (2 ^ 64 - 1)) (only number_of words)

unfoldable pub lent : List ℕ → Option ℕ → Option Call
lent what (Some k) = chosen ((same what (bytes "record"), Some (LendRecord k)) ∷ (same what (bytes "marks"), Some (LendMarks k)) ∷ [])
lent what None = None

unfoldable pub lend_of : List (List ℕ) → Option Call
lend_of [] = None
lend_of (what ∷ words) = lent what (amount_of words)

-- `hold idle`, `hold read V STEP GATHERED`, `hold write V STEP VALUE`
unfoldable pub in_hand_lem : Bool → ℕ → ℕ → ℕ → Operation
in_hand_lem true v step pattern = Reading v step pattern
in_hand_lem false v step pattern = Writing v step pattern

unfoldable pub held : Bool → Option ℕ → Option ℕ → Option ℕ → Option Call
held reading (Some v) (Some step) (Some pattern) = Some (Hold (in_hand_lem reading v step pattern))
held reading (Some v) (Some step) None = None
held reading (Some v) None pattern = None
held reading None step pattern = None

-- the pattern has 32 bits
unfoldable pub held_of : Bool → List (List ℕ) → Option Call
held_of reading [] = None
held_of reading (v ∷ []) = None
held_of reading (v ∷ step ∷ words) = held reading (number_of v) (number_of step) (only carried_of words)

unfoldable pub holding : List ℕ → List (List ℕ) → Option Call
holding what words =
    chosen
    ((same what (bytes "idle"), bare_of words (Hold Idle))
    ∷ (same what (bytes "read"), held_of true words)
    ∷ (same what (bytes "write"), held_of false words)
    ∷ [])

unfoldable pub hold_of : List (List ℕ) → Option Call
hold_of [] = None
hold_of (what ∷ words) = holding what words

-- ── every call by its first word ──

abbrev pub operations : List ℕ → List (List ℕ) → List (Bool × Option Call)
operations verb words =
    (same verb (bytes "read"), with_number (only number_of words) Read)
    ∷ (same verb (bytes "write"), write_of words)
    ∷ (same verb (bytes "confirm"), with_number (only carried_of words) Confirm)
    ∷ (same verb (bytes "abandon"), bare_of words (Station Abandon))
    ∷ (same verb (bytes "calibrated"), calibrated_of words)
    ∷ []

unfoldable pub call_by : List ℕ → List (List ℕ) → Option Call
call_by verb words =
    chosen
    ((same verb (bytes "open"), with_number (count_from words 0) Open)
    ∷ (same verb (bytes "lookup"), lookup_of words)
    ∷ (same verb (bytes "state"), bare_of words State)
    ∷ (same verb (bytes "lend"), lend_of words)
    ∷ (same verb (bytes "hold"), hold_of words)
    ∷ operations verb words)

-- a line without a word, and one whose first word begins with `;`, asks for nothing
unfoldable pub is_skipped : List ℕ → Bool
is_skipped [] = true
is_skipped (x ∷ word) = eqb x (code ";")

-- a line that is no call is unknown
unfoldable pub call_of : List (List ℕ) → Call
call_of [] = Nothing
call_of (verb ∷ words) = cond (is_skipped verb) Nothing (unwrap_or (call_by verb words) Unknown)
