-- Done, wherever it is said: whatever was called before, refused calls between confirmations included. proofs/Done.antt
-- proves it.
-- Assumes nothing.
use Rattle.std.specs.Prelude.{ℕ, ◌≡◌, List, ℤ}
use Rattle.tables.specs.declared.Part.TheVariants.{Read as reading, Write as writing}
use Rattle.tables.specs.View.{Tables, sound}
use Rattle.station.specs.declared.Operation.TheVariants.{Idle}
use Rattle.station.specs.declared.Answer.TheVariants.{Done}
use Rattle.station.specs.Calls.{steps_of}
use Rattle.board.specs.Board.{Asked, Nothing, ToRead, ToWrite, World, Call, step}
use Rattle.board.specs.Demand.{Opening, world_after}

-- what a done of what was asked tells: the number of the plan's registers, and of a write the value asked for. (Of a
-- plain variable's read Demand.antt says the value, `never_another`.) Where nothing was asked it is not said
abbrev pub DoneRight : Tables → Asked → ℤ → ℕ → Type 0
DoneRight t Nothing y n = ⊥
DoneRight t (ToRead v) y n = n ≡ steps_of t reading v
DoneRight t (ToWrite v z) y n = (y ≡ z) × (n ≡ steps_of t writing v)

-- between these worlds an operation was done with value y, by n accesses: the station is idle, and nothing is asked
pub record DoneWith (t : Tables) (before after : World) (y : ℤ) (n : ℕ) : Type 0 where
  pub right : DoneRight t before.asked y n
  pub idle : after.state.operation ≡ Idle
  pub at_rest : after.asked ≡ Nothing

pub record SaysDone (t : Tables) (power : List ℕ) (o : Opening t power) : Type 0 where
  pub done : (calls : List Call) (call : Call) (y : ℤ) (n : ℕ) → (step sound t call (world_after o calls)).answer ≡ Done y n
      → DoneWith t (world_after o calls) (step sound t call (world_after o calls)) y n
