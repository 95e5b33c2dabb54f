-- Demand 2's step order: "Each read and write is exactly the accesses that the definition gives, in its order, and is
-- called done at the last confirmation and never sooner." The definition is a plan, a list of accesses that is made
-- when the operation begins. What a plan is stands here in the order of document 01, then what answers it gives.
-- proofs/Stepping.antt proves `GoesByPlan` of both begins and `StopsAtMisfit` of a read's, from any state;
-- proofs/Distinct.antt proves `EachOnce`, proofs/ByteLaws.antt `ByteRight` and `ObeysRight`.
-- Assumes nothing.
use Rattle.std.specs.Prelude.{ℕ, suc, ◌≤◌, ◌<◌, ◌^◌, ◌≡◌, true, false, cond, List, [], ◌∷◌, ◌++◌, map, eqb, ℤ, length, get_or, take}
use Rattle.std.proofs.Math.Option.{none}
use Rattle.tables.specs.declared.Part.{Part}
use Rattle.tables.specs.declared.Part.TheVariants.{Read as reading, Write as writing}
use Rattle.tables.specs.View.{Tables, sound, Among, register_width, is_dot, is_fixed, is_one, obeys, kind_of, size, home_of, spot_of, registers_of}
use Rattle.bits.specs.Bits.{bit, number_of}
use Rattle.bits.specs.Values.{encode, decode}
use Rattle.station.specs.declared.Access.{Access}
use Rattle.station.specs.declared.Answer.{Answer}
use Rattle.station.specs.declared.Answer.TheVariants.{Refused, Stopped, Offer as Offered, Done}
use Rattle.station.specs.Calls.{State, Outcome, kept_of, register_taken, steps_of, access_at, written_byte, confirm}
use Rattle.station.specs.Answers.{refusal_of}

-- ── "Registers are taken in order of first mention in the part, each once." ──

-- no number stands twice in a list
abbrev pub Once : List ℕ → Type 0
Once [] = Unit {0}
Once (r ∷ rest) = (Among r rest → ⊥) × Once rest

-- `registers_of`, the order of first mention, has the register of each bit of the part, each once, and no other: so it
-- is as long as "the part has distinct registers"
pub record EachOnce (t : Tables) (part : Part) (v : ℕ) : Type 0 where
  pub once : Once (registers_of t part v)
  pub every : (j : ℕ) → j < size t part v → Among (home_of t part v j) (registers_of t part v)
  pub only : (r : ℕ) → Among r (registers_of t part v) → (j : ℕ) × (j < size t part v) × (home_of t part v j ≡ r)

-- ── "An access gives direction, parameter, offset, byte (0 when reading)." ──

-- an access for each register, with its byte
abbrev pub plan : Tables → Part → ℕ → (ℕ → ℕ) → List Access
plan t part v byte_for = map (λ (r : ℕ). access_at t part r (byte_for r)) (registers_of t part v)

abbrev pub read_plan : Tables → ℕ → List Access
read_plan t v = plan t reading v (λ r. 0)

-- a write's bytes are made from the value, and from the record as it is at the begin
abbrev pub write_plan : Tables → State → ℕ → ℤ → List Access
write_plan t s v z = plan t writing v (written_byte t (kept_of s) v (encode (size t writing v) z))

-- ── "The byte written takes the variable's bits from the value, other dot bits from the record, `0` and `1` from the
-- mask, `*` as 0." ──

-- `written_byte` is the byte of register r that does so for the bits x of variable v, and no other byte does
pub record ByteRight (t : Tables) (kept : ℕ → ℕ) (v x r byte : ℕ) : Type 0 where
  pub own : (j : ℕ) → j < size t writing v → home_of t writing v j ≡ r → bit (spot_of t writing v j) byte ≡ bit j x
  pub other-dots : (b : ℕ) → b < register_width t r → is_dot t writing r b ≡ true
      → ((j : ℕ) → j < size t writing v → home_of t writing v j ≡ r → spot_of t writing v j ≡ b → ⊥) → bit b byte ≡ bit b (kept r)
  pub from-mask : (b : ℕ) → b < register_width t r → is_dot t writing r b ≡ false → bit b byte ≡ is_one t writing r b
  pub narrow : byte < 2 ^ register_width t r

-- ── "Reading uses only the variable's bits. Signed values are two's complement." ──

-- the byte that the confirmations, one for each of these registers, brought for register r
abbrev pub brought_for : List ℕ → List ℕ → ℕ → ℕ
brought_for [] bytes r = 0
brought_for (s ∷ registers) [] r = 0
brought_for (s ∷ registers) (byte ∷ bytes) r = cond (eqb r s) byte (brought_for registers bytes r)

-- each of the variable's bits from the byte of its register
abbrev pub value_read : Tables → ℕ → List ℕ → ℤ
value_read t v bytes =
    decode (kind_of t v) (size t reading v)
    (number_of (size t reading v) (λ j. bit (spot_of t reading v j) (brought_for (registers_of t reading v) bytes (home_of t reading v j))))

-- 02 on fixed read bits: `obeys`, which compares words, says bit by bit that none of them differs from the byte
pub record ObeysRight (t : Tables) (r byte : ℕ) : Type 0 where
  pub each : obeys t reading r byte ≡ true → (b : ℕ) → is_fixed t reading r b ≡ true → bit b byte ≡ is_one t reading r b
  pub all : ((b : ℕ) → is_fixed t reading r b ≡ true → bit b byte ≡ is_one t reading r b) → obeys t reading r byte ≡ true

-- the bytes brought obey, each its register
abbrev pub Obeyed : Tables → ℕ → List ℕ → Type 0
Obeyed t v bytes = (i : ℕ) → i < length bytes → obeys t reading (register_taken t reading v i) (get_or bytes i 0) ≡ true

-- the byte that a write's confirmation brings is ignored
abbrev pub Ignored : List ℕ → Type 0
Ignored bytes = Unit {0}

-- ── "A begin offers the first access; each confirmation offers the next or says done." ──

-- the answers to a begin, whose outcome this is, and to the confirmations that bring these bytes
unfoldable pub answers_of : Tables → Outcome → List ℕ → List Answer
answers_of t o [] = o.answer ∷ []
answers_of t o (byte ∷ bytes) = o.answer ∷ answers_of t (confirm sound t o.state byte) bytes

-- each access of the plan is offered, in its order, and then done is said: "Done gives the value and the number of
-- accesses"
abbrev pub offers_then_done : List Access → ℤ → List Answer
offers_then_done accesses value = map Offered accesses ++ (Done value (length accesses) ∷ [])

-- a begin that was not refused is answered so, up to each of its confirmations, where the bytes that they bring are
-- good: where they obey, for a read; a write's confirmations bring "a byte that is ignored"
pub record GoesByPlan (t : Tables) (begin : Outcome) (accesses : List Access) (value : List ℕ → ℤ) (good : List ℕ → Type 0) : Type 0 where
  pub answers : refusal_of begin.answer ≡ none → (bytes : List ℕ) → good bytes → length bytes ≤ length accesses
      → answers_of t begin bytes ≡ take (suc (length bytes)) (offers_then_done accesses (value bytes))
  -- "An operation ends after exactly as many confirmations as the part has distinct registers": with all of them, that
  -- is every answer
  pub whole : refusal_of begin.answer ≡ none → (bytes : List ℕ) → good bytes → length bytes ≡ length accesses
      → answers_of t begin bytes ≡ offers_then_done accesses (value bytes)
  -- "at most 8"
  pub few : refusal_of begin.answer ≡ none → length accesses ≤ 8

-- ── 02: "A confirmed read whose fixed mask bits differ from the byte is refused .., and the operation ends." ──

-- of a read that was begun: at the first byte that differs the answer is 52 with its register, and what is confirmed
-- after it has nothing in hand
pub record StopsAtMisfit (t : Tables) (begin : Outcome) (v : ℕ) : Type 0 where
  pub stops : refusal_of begin.answer ≡ none → (bytes more : List ℕ) (byte : ℕ) → Obeyed t v bytes → length bytes < steps_of t reading v
      → obeys t reading (register_taken t reading v (length bytes)) byte ≡ false
      → answers_of t begin (bytes ++ (byte ∷ more))
      ≡ map Offered (take (suc (length bytes)) (read_plan t v))
      ++ (Stopped 52 (register_taken t reading v (length bytes)) ∷ map (λ (b : ℕ). Refused 24) more)
