-- The middle of a write, in every world in which one is under way, and what an abandoned write leaves.
-- proofs/Middle.antt proves it.
-- Assumes nothing.
use Rattle.std.specs.Prelude.{ℕ, zero, suc, ◌<◌, ◌≡◌, ◌⊎◌, Bool, true, false, cond, not, ◌&&◌, List, [], ◌∷◌, ◌++◌, ℤ, take}
use Rattle.bits.specs.Bits.{bit}
use Rattle.bits.specs.Values.{in_range, encode}
use Rattle.tables.specs.declared.Part.TheVariants.{Write as writing}
use Rattle.tables.specs.View.{Tables, sound, variable_count, variable_has, kind_of, size, home_of, spot_of, registers_of, is_among}
use Rattle.station.specs.Calls.{kept_of, steps_of, written_byte}
use Rattle.board.specs.Board.{Cells, Nothing, ToWrite, Call, BeginRead, BeginWrite, Confirm, Abandon, Reopen, after}
use Rattle.board.specs.Demand.{Opening, power_on, world_after}
use Rattle.board.specs.Stops.{last_given, is_half, none_begins, left_by}

-- a write that a begin takes on
pub record Takes (t : Tables) (v : ℕ) (z : ℤ) : Type 0 where
  pub exists : v < variable_count t
  pub has_part : variable_has t writing v ≡ true
  pub fits : in_range (kind_of t v) (size t writing v) z ≡ true

-- ── a write under way ──

-- the confirmations among these calls, how many they are; and none of these calls ends an operation
unfoldable pub confirmations : List Call → ℕ
confirmations [] = zero
confirmations (BeginRead v ∷ calls) = confirmations calls
confirmations (BeginWrite v z ∷ calls) = confirmations calls
confirmations (Confirm any ∷ calls) = suc (confirmations calls)
confirmations (Abandon performed ∷ calls) = confirmations calls
confirmations (Reopen power ∷ calls) = confirmations calls

abbrev pub ends : Call → Bool
ends (BeginRead v) = false
ends (BeginWrite v z) = false
ends (Confirm any) = false
ends (Abandon performed) = true
ends (Reopen power) = false

unfoldable pub none_ends : List Call → Bool
none_ends [] = true
none_ends (call ∷ calls) = not (ends call) && none_ends calls

-- the registers that a write has set after so many confirmations: one each, in its order, and the next one too if the
-- access on offer was performed
abbrev pub set_so_far : Tables → ℕ → ℕ → Bool → List ℕ
set_so_far t v confirmed performed = take (cond performed (suc confirmed) confirmed) (registers_of t writing v)

-- these registers hold the number that a write of v with bits x puts there, the others what they held
abbrev pub wrote_over : Tables → Cells → ℕ → ℕ → List ℕ → Cells → Cells
wrote_over t kept v x registers held r = cond (is_among r registers) (written_byte t kept v x r) (held r)

-- after these calls a write of v with value z is under way: it was begun on an idle station, and since then there were
-- but its confirmations, and begins and openings that were refused; it has set the registers of its confirmations, and
-- no other cell
pub record UnderWay {t : Tables} {power : List ℕ} (o : Opening t power) (calls : List Call) (v : ℕ) (z : ℤ) : Type 0 where
  pub before : List Call
  pub since : List Call
  pub begun : calls ≡ before ++ (BeginWrite v z ∷ since)
  pub idle : (world_after o before).asked ≡ Nothing
  pub takes : Takes t v z
  pub unended : none_ends since ≡ true
  pub left : confirmations since < steps_of t writing v
  pub half-set : (performed : Bool) (r : ℕ)
      → left_by t performed (world_after o calls) r
      ≡ wrote_over t (kept_of (world_after o before).state) v (encode (size t writing v) z) (set_so_far t v (confirmations since) performed)
      (world_after o before).cells r

-- ── after it was abandoned ──

-- register r's share of v, the bits of v that live there, are those of x
abbrev pub ShareIs : Tables → Cells → ℕ → ℕ → ℕ → Type 0
ShareIs t cells v r x = (j : ℕ) → j < size t writing v → home_of t writing v j ≡ r → bit (spot_of t writing v j) (cells r) ≡ bit j x

pub record Middle (t : Tables) (power : List ℕ) (o : Opening t power) : Type 0 where
  -- so it is in every world in which the onlooker has seen a write begun and not ended
  pub under_way : (calls : List Call) (v : ℕ) (z : ℤ) → (world_after o calls).asked ≡ ToWrite v z → UnderWay o calls v z
  -- a write of a variable that was whole is abandoned: whatever follows but a write of it, each register's share of it
  -- is wholly old or wholly new. (Which of the two may change: a neighbour's write puts the record's bits back.)
  pub old-or-new : (calls : List Call) (v : ℕ) (z : ℤ) → (world_after o calls).asked ≡ ToWrite v z → is_half (world_after o calls).events v ≡ false
      → (performed : Bool) (later : List Call) → none_begins later v ≡ true → (r : ℕ)
      → ShareIs t (after sound t (Abandon performed ∷ later) (world_after o calls)).cells v r (last_given t (power_on power) (world_after o calls).events v)
      ⊎ ShareIs t (after sound t (Abandon performed ∷ later) (world_after o calls)).cells v r (encode (size t writing v) z)
