-- Each number that a call can give (`CanGive` of station) does occur: 20 on tables of no words, the others on the
-- scoring board.
-- Assumes nothing.
use Prim.Native.Nat.{ℕ}
use mathlib.Core.Path.{◌≡◌, refl, ap}
use mathlib.Core.Bool.{Bool, false}
use mathlib.Core.List.{List, [], ◌∷◌, map}
use mathlib.Core.Option.{Option, some}
use lib.Dec.{leb}
use lib.IntN.{pos, negsuc}
use lib.ListN.{length, replicate}
use Rattle.tables.specs.Marks.{joined, down_from}
use Rattle.tables.specs.Sound.{tables_fit}
use Rattle.tables.specs.Sound as S
use Rattle.tables.specs.View.{Tables, sound, register_count, register_width, register_has, parameter_of, offset_of, is_dot, is_one, obeys, variable_count, kind_of, variable_has, bits_of, size, place_of, without, mentions, registers_of}
use Rattle.bits.specs.Bits.{bit, number_of}
use Rattle.bits.specs.Values.{is_below_lem, is_above, in_range, encode, decode}
use Rattle.station.specs.declared.Operation.{Operation}
use Rattle.station.specs.declared.Operation.TheVariants.{Idle, Reading, Writing}
use Rattle.station.specs.Answers.{refusal_of}
use Rattle.station.specs.Calls.{State, Outcome, opening, begin_read, begin_write, confirm, abandon, unless, is_long, is_underway, is_read, is_gathered, is_allowed, own_bit, other_bit, settings_bit, settings_byte, written_byte, gathered_bit, gather}
use Rattle.board.proofs.Scoring.{scoring, scoring-sound}

-- tables of no words
abbrev empty : Tables
empty = record { parameters = []; registers = []; variables = [] }

-- a state with this operation in hand; one whose record is too short; one whose score is marked
abbrev holding : Operation → State
holding op = record { kept = replicate 5 0; marks = replicate 6 0; operation = op }

abbrev short : State
short = record { kept = []; marks = replicate 6 0; operation = Idle }

abbrev half_written : State
half_written = record { kept = replicate 5 0; marks = 1 ∷ replicate 5 0; operation = Idle }

-- the scoring board's variable 3 is only read, 5 only written, 6 is none; its register 3 has a bit that is fixed at 0
pub record Calls : Type 0 where
  openings : List Outcome
  reads : List Outcome
  writes : List Outcome
  confirmations : List Outcome
  ends : List Outcome

calls : (Tables → Bool) → Calls
calls test =
    record {
      openings = opening test empty [] short ∷ opening test scoring [] short ∷ [];
      reads = begin_read test empty short 0
          ∷ begin_read test scoring short 0
          ∷ begin_read test scoring (holding (Reading 0 2 0)) 0
          ∷ begin_read test scoring (holding (Reading 0 0 0)) 0
          ∷ begin_read test scoring (holding Idle) 6
          ∷ begin_read test scoring (holding Idle) 5
          ∷ begin_read test scoring half_written 0
          ∷ [];
      writes = begin_write test empty short 0 (pos 0)
          ∷ begin_write test scoring short 0 (pos 0)
          ∷ begin_write test scoring (holding (Writing 3 0 0)) 0 (pos 0)
          ∷ begin_write test scoring (holding (Writing 0 1 0)) 0 (pos 0)
          ∷ begin_write test scoring (holding Idle) 6 (pos 0)
          ∷ begin_write test scoring (holding Idle) 3 (pos 0)
          ∷ begin_write test scoring (holding Idle) 0 (negsuc 0)
          ∷ begin_write test scoring (holding Idle) 0 (pos 0x1000)
          ∷ [];
      confirmations = confirm test empty short 0
          ∷ confirm test scoring short 0
          ∷ confirm test scoring (holding (Reading 0 0 1)) 0
          ∷ confirm test scoring (holding Idle) 0
          ∷ confirm test scoring (holding (Reading 3 0 0)) 0x80
          ∷ [];
      ends = abandon test empty short
          ∷ abandon test scoring short
          ∷ abandon test scoring (holding (Writing 0 0 0x1000))
          ∷ abandon test scoring (holding Idle)
          ∷ [];
    }

told : Calls → List (List (Option ℕ))
told c =
    map (map (λ (o : Outcome). refusal_of o.answer)) (c.openings ∷ c.reads ∷ c.writes ∷ c.confirmations ∷ c.ends ∷ [])

-- the two tables judged: one fails refusal 20's test, the other passes it
abbrev judged : Tables → Bool
judged t = leb 1 (length t.registers)

empty-fails : sound empty ≡ false
unfolding sound S.sound tables_fit
empty-fails = refl

calls-judged : calls sound ≡ calls judged
unfolding calls scoring unless
calls-judged = rw (scoring-sound, empty-fails)

all_occur : told (calls sound)
    ≡ map (map some)
    ((20 ∷ 21 ∷ [])
    ∷ (20 ∷ 21 ∷ 22 ∷ 23 ∷ 25 ∷ 26 ∷ 28 ∷ [])
    ∷ (20 ∷ 21 ∷ 22 ∷ 23 ∷ 25 ∷ 26 ∷ 27 ∷ 55 ∷ [])
    ∷ (20 ∷ 21 ∷ 22 ∷ 24 ∷ 52 ∷ [])
    ∷ (20 ∷ 21 ∷ 22 ∷ 24 ∷ [])
    ∷ [])
unfolding told calls scoring unless is_long is_underway is_read is_gathered is_allowed is_below_lem is_above in_range encode decode variable_count register_count register_width register_has parameter_of offset_of is_dot is_one kind_of variable_has joined down_from bits_of size place_of without mentions registers_of bit number_of own_bit other_bit settings_bit settings_byte written_byte gathered_bit gather obeys
all_occur = ap told calls-judged
