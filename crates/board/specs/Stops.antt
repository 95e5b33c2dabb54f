-- Stations that stop midway: what is known of the board at any moment. This goes beyond demand 3. proofs/Stops.antt
-- proves it. Where it says how a variable reads, it says what a read is due that comes to be done: with two masks for
-- one register, or a power-on value that does not obey, a read may be stopped by 52 (Demand.antt, `reads-back`).
-- Assumes nothing.
use Rattle.std.specs.Prelude.{ℕ, ◌<◌, ◌≡◌, Bool, true, false, cond, not, ◌&&◌, List, [], ◌∷◌, eqb, ℤ}
use Rattle.std.proofs.Math.Option.{some}
use Rattle.tables.specs.declared.Part.TheVariants.{Write as writing}
use Rattle.tables.specs.View.{Tables, sound, variable_count, size, registers_of, Among}
use Rattle.bits.specs.Values.{encode}
use Rattle.board.specs.Board.{Cells, Event, Finished, Abandoned, Asked, Nothing, ToRead, ToWrite, must_read, bits_in, World, Call, BeginRead, BeginWrite, Confirm, Abandon, Reopen, to_be_set, perform, step, after}
use Rattle.board.specs.Demand.{Opening, power_on, world_after}

-- ── what the onlooker knows of a variable ──

-- the bits that its last finished write gave it, or else its power-on bits
unfoldable pub last_given : Tables → Cells → List Event → ℕ → ℕ
last_given t power [] v = bits_in t writing v power
last_given t power (Finished u z ∷ before) v = cond (eqb v u) (encode (size t writing v) z) (last_given t power before v)
last_given t power (Abandoned u ∷ before) v = last_given t power before v

-- its last write was abandoned
unfoldable pub is_half : List Event → ℕ → Bool
is_half [] v = false
is_half (Finished u z ∷ before) v = cond (eqb v u) false (is_half before v)
is_half (Abandoned u ∷ before) v = cond (eqb v u) true (is_half before v)

-- a write of it is under way
abbrev pub is_being_written : Asked → ℕ → Bool
is_being_written Nothing v = false
is_being_written (ToRead u) v = false
is_being_written (ToWrite u z) v = eqb v u

-- settled: neither half-written nor being written
pub record Settled (w : World) (v : ℕ) : Type 0 where
  pub whole : is_half w.events v ≡ false
  pub at_rest : is_being_written w.asked v ≡ false

-- none of these calls begins a write of v
abbrev pub begins : Call → ℕ → Bool
begins (BeginRead u) v = false
begins (BeginWrite u z) v = eqb v u
begins (Confirm any) v = false
begins (Abandon performed) v = false
begins (Reopen power) v = false

unfoldable pub none_begins : List Call → ℕ → Bool
none_begins [] v = true
none_begins (call ∷ calls) v = not (begins call v) && none_begins calls v

-- ── a station at work ──

-- between these worlds v stayed as it was: on the board, and to a reader
pub record Spared (t : Tables) (power : Cells) (w u : World) (v : ℕ) : Type 0 where
  pub settled : Settled u v
  pub same_bits : bits_in t writing v u.cells ≡ bits_in t writing v w.cells
  pub same-due : must_read t power u.events v ≡ must_read t power w.events v

pub record AtWork (t : Tables) (power : List ℕ) (o : Opening t power) : Type 0 where
  -- a call changes at most the cell that the access on offer would set
  pub one_cell : (calls : List Call) (call : Call) (r : ℕ) → (to_be_set t (world_after o calls).offer ≡ some r → ⊥)
      → (step sound t call (world_after o calls)).cells r ≡ (world_after o calls).cells r
  -- which is a register of the variable whose write was begun
  pub own_cell : (calls : List Call) (r : ℕ) → to_be_set t (world_after o calls).offer ≡ some r
      → (v : ℕ) × (z : ℤ) × ((world_after o calls).asked ≡ ToWrite v z) × Among r (registers_of t writing v)
  -- a settled variable has on the board the bits last given to it
  pub settled-bits : (calls : List Call) (v : ℕ) → v < variable_count t → Settled (world_after o calls) v
      → bits_in t writing v (world_after o calls).cells ≡ last_given t (power_on power) (world_after o calls).events v
  -- whatever is begun, confirmed, finished or abandoned, at whatever step, performed or not: a settled variable keeps
  -- every bit and reads as before, until a write of its own begins
  pub spared : (calls later : List Call) (v : ℕ) → v < variable_count t → Settled (world_after o calls) v → none_begins later v ≡ true
      → Spared t (power_on power) (world_after o calls) (after sound t later (world_after o calls)) v

-- ── a station that stops ──

-- the cells that it leaves: the access on offer was performed, or not
abbrev pub left_by : Tables → Bool → World → Cells
left_by t performed w = cond performed (perform t w.offer w.cells) w.cells
