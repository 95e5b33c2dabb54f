-- A loss of power that leaves the board and a list, on durable storage, of the variables whose writes were unfinished:
-- a station that opens again, and begins and abandons a write of each, never reads a mixture. proofs/Remarks.antt
-- proves it; README.md shows how a station keeps the list.
-- Assumes nothing.
use Rattle.std.specs.Prelude.{ℕ, ◌≡◌, ◌⊎◌, Bool, true, false, List, [], ◌∷◌, ℤ, pos}
use Rattle.bits.specs.Values.{in_range}
use Rattle.tables.specs.declared.Part.TheVariants.{Write as writing}
use Rattle.tables.specs.View.{Tables, Plain, Among, kind_of, size, without}
use Rattle.board.specs.Board.{Event, Finished, Abandoned, Asked, Nothing, ToRead, ToWrite, HalfWritten, World, Call, BeginWrite, Abandon}
use Rattle.board.specs.Demand.{Opening, world_after, due_after}
use Rattle.board.specs.Stops.{Settled, left_by}
use Rattle.board.specs.Lost.{Agree}

-- ── the list ──

-- a variable is put on it when a write of it is offered its first access, before that is performed, and is taken off
-- when a write of it is done
unfoldable pub unfinished_in : List Event → List ℕ
unfinished_in [] = []
unfinished_in (Finished v z ∷ before) = without v (unfinished_in before)
unfinished_in (Abandoned v ∷ before) = v ∷ unfinished_in before

abbrev pub with_asked : Asked → List ℕ → List ℕ
with_asked Nothing list = list
with_asked (ToRead v) list = list
with_asked (ToWrite v z) list = v ∷ list

abbrev pub unfinished : World → List ℕ
unfinished w = with_asked w.asked (unfinished_in w.events)

-- ── marking again ──

-- a write of each of these variables is begun, and abandoned with no access performed
unfoldable pub remarks : (ℕ → ℤ) → List ℕ → List Call
remarks value [] = []
remarks value (v ∷ list) = BeginWrite v (value v) ∷ Abandon false ∷ remarks value list

-- every plain variable has a value that its write takes: 0 will do, for every kind
abbrev pub AllFit : Tables → (ℕ → ℤ) → Type 0
AllFit t value = (v : ℕ) → Plain t v → in_range (kind_of t v) (size t writing v) (value v) ≡ true

-- the list has every plain variable that is not settled
abbrev pub Covers : Tables → World → List ℕ → Type 0
Covers t w list = (v : ℕ) → Plain t v → Among v list ⊎ Settled w v

pub record Remarked (t : Tables) (power : List ℕ) (o : Opening t power) : Type 0 where
  -- the list as it is kept has every plain variable that it must have; 0 fits every kind
  pub kept-list : (calls : List Call) → Covers t (world_after o calls) (unfinished (world_after o calls))
  pub zero-fits : AllFit t (λ v. pos 0)
  -- with any such list, which may have more: every plain variable is refused as half-written or reads exactly as before
  -- the loss (Lost.antt, `AsItIs`, says how such a due is answered on the board as it is)
  pub never-mixed : (calls : List Call) (performed : Bool) {numbers : List ℕ} (again : Opening t numbers) (value : ℕ → ℤ) (list : List ℕ)
      → Agree t (left_by t performed (world_after o calls)) numbers → AllFit t value → Covers t (world_after o calls) list → (v : ℕ) → Plain t v
      → (due_after again (remarks value list) v ≡ HalfWritten) ⊎ (due_after again (remarks value list) v ≡ due_after o calls v)
  -- and a variable of the list is refused; nothing is in hand then
  pub refused : {numbers : List ℕ} (again : Opening t numbers) (value : ℕ → ℤ) (list : List ℕ) → AllFit t value → (v : ℕ) → Plain t v → Among v list
      → due_after again (remarks value list) v ≡ HalfWritten
  pub at_rest : {numbers : List ℕ} (again : Opening t numbers) (value : ℕ → ℤ) (list : List ℕ) → (world_after again (remarks value list)).asked ≡ Nothing
