-- A loss of power that leaves the station nothing but the board. Registers that cannot be read are not read back: what
-- is said holds whatever the caller lends for them. proofs/Lost.antt proves it.
-- Assumes nothing.
use Rattle.std.specs.Prelude.{ℕ, ◌^◌, ◌<◌, ◌≤◌, ◌≡◌, Bool, true, false, cond, List, [], ℤ, length, get_or}
use Rattle.std.proofs.Math.Option.{none}
use Rattle.tables.specs.declared.Part.TheVariants.{Read as reading, Write as writing}
use Rattle.tables.specs.View.{Tables, sound, Plain, register_count, register_width, register_has, kind_of, size, home_of, is_among}
use Rattle.bits.specs.Bits.{bit, number_of}
use Rattle.bits.specs.Values.{encode, decode}
use Rattle.station.specs.declared.Answer.TheVariants.{Refused, Opened, Done}
use Rattle.station.specs.Calls.{State, opening, is_long, steps_of}
use Rattle.board.specs.Board.{Cells, Nothing, Gives, HalfWritten, World, with_cells, Call, BeginRead, step, after, whole_read}
use Rattle.board.specs.Obedient.{Obedient}
use Rattle.board.specs.Demand.{Opening, power_on, world_after, due_after}
use Rattle.board.specs.Stops.{last_given, Settled, left_by}
use Rattle.board.specs.Middle.{confirmations, set_so_far, UnderWay}

-- ── a board as it is ──

-- cells and power-on numbers agree on each register that can be read; a station reads those back, and for the others it
-- lends whatever numbers of their widths it likes
abbrev pub Agree : Tables → Cells → List ℕ → Type 0
Agree t cells numbers = (r : ℕ) → r < register_count t → register_has t reading r ≡ true → get_or numbers r 0 ≡ cells r

-- the world of an opening, on a board with these cells
abbrev pub opened_on : {t : Tables} {numbers : List ℕ} → Opening t numbers → Cells → World
opened_on {t} {numbers} o cells =
    let outcome = opening sound t numbers o.lent in
    record { state = outcome.state; cells = cells; offer = none; asked = Nothing; events = []; answer = outcome.answer }

-- no station can tell these worlds apart: they differ at most in cells that cannot be read
pub record SeenAlike (t : Tables) (w u : World) : Type 0 where
  pub same : w ≡ with_cells u w.cells
  pub cells : (r : ℕ) → r < register_count t → register_has t reading r ≡ true → w.cells r ≡ u.cells r

-- demand 3 supposes that "the cells at an opening are its power-on bytes"; where they agree on what can be read, every
-- call is answered as if they were. So its sentences on reading hold of such a board
pub record AsItIs (t : Tables) (numbers : List ℕ) (o : Opening t numbers) : Type 0 where
  pub unseen : (cells : Cells) → Agree t cells numbers → (calls : List Call) → SeenAlike t (after sound t calls (opened_on o cells)) (world_after o calls)
  pub reads-back : (cells : Cells) → Agree t cells numbers → (calls : List Call) (v : ℕ) (z : ℤ) (anys : List ℕ) → Obedient t numbers → Plain t v
      → (world_after o calls).asked ≡ Nothing → due_after o calls v ≡ Gives z → length anys ≡ steps_of t reading v
      → (after sound t (whole_read v anys) (after sound t calls (opened_on o cells))).answer ≡ Done z (steps_of t reading v)
  pub half_written_lem : (cells : Cells) → Agree t cells numbers → (calls : List Call) (v : ℕ) → Plain t v → (world_after o calls).asked ≡ Nothing
      → due_after o calls v ≡ HalfWritten → (step sound t (BeginRead v) (after sound t calls (opened_on o cells))).answer ≡ Refused 28

-- ── a loss of power ──

-- the new bits in these registers, the old ones elsewhere
abbrev pub mixed : Tables → ℕ → List ℕ → (new old : ℕ) → ℕ
mixed t v registers new old = number_of (size t writing v) (λ j. cond (is_among (home_of t writing v j) registers) (bit j new) (bit j old))

pub record PowerLost (t : Tables) (power : List ℕ) (o : Opening t power) : Type 0 where
  -- whenever it happens the cells hold numbers of their registers' widths, and any list that is long enough opens the
  -- station again
  pub numbers-again : (calls : List Call) (performed : Bool) (r : ℕ) → r < register_count t → left_by t performed (world_after o calls) r < 2 ^ register_width t r
  pub opens-again : (numbers : List ℕ) (lent : State) → register_count t ≤ length numbers → is_long t lent ≡ true → (opening sound t numbers lent).answer ≡ Opened
  -- a plain variable that was settled reads as before: as its last finished value, or its first power-on bits
  pub settled-known : (calls : List Call) (performed : Bool) {numbers : List ℕ} (again : Opening t numbers) (v : ℕ)
      → Agree t (left_by t performed (world_after o calls)) numbers → Plain t v → Settled (world_after o calls) v → due_after again [] v ≡ due_after o calls v
  -- a plain variable in the middle of its write, settled before it, reads as the new bits in the registers set and the
  -- old ones elsewhere. It is not refused: the mark is lost with the power, and what it reads may be neither value
  -- (proofs/Witness.antt has such a case; Remarks.antt says what helps). Of one that was half-written before, no more
  -- is known than what `half-set` says of the cells
  pub mixed-known : (calls : List Call) (v : ℕ) (z : ℤ) (u : UnderWay o calls v z) (performed : Bool) {numbers : List ℕ} (again : Opening t numbers)
      → Agree t (left_by t performed (world_after o calls)) numbers → Plain t v → Settled (world_after o u.before) v
      → due_after again [] v
      ≡ Gives (decode (kind_of t v) (size t writing v)
      (mixed t v (set_so_far t v (confirmations u.since) performed) (encode (size t writing v) z)
      (last_given t (power_on power) (world_after o u.before).events v)))
  -- as before, if no register was set
  pub unset-known : (calls : List Call) (v : ℕ) (z : ℤ) (u : UnderWay o calls v z) {numbers : List ℕ} (again : Opening t numbers)
      → Agree t (left_by t false (world_after o calls)) numbers → Plain t v → Settled (world_after o u.before) v → confirmations u.since ≡ 0
      → due_after again [] v ≡ due_after o u.before v
