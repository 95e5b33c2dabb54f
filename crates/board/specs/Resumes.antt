-- A station that stops midway and has kept its record, its marks and its operation goes on as if it had not stopped.
-- proofs/Resumes.antt proves it.
-- Assumes nothing.
use Rattle.std.specs.Prelude.{ℕ, ◌≡◌, Bool, ◌||◌, List}
use Rattle.tables.specs.View.{Tables, sound}
use Rattle.board.specs.Board.{with_cells, World, Call, Confirm, Abandon, step}
use Rattle.board.specs.Demand.{Opening, world_after}
use Rattle.board.specs.Stops.{left_by}

-- the world in which the station finds itself again: what it kept, and a board on which the access on offer was
-- performed, or not; it does not know which
abbrev pub found_again : Tables → Bool → World → World
found_again t performed w = with_cells w (left_by t performed w)

-- what it then does: it performs the access on offer, perhaps for the second time, and confirms it; or it abandons
abbrev pub goes_on_lem : Tables → ℕ → World → World
goes_on_lem t any w = step sound t (Confirm any) w

abbrev pub gives_up_lem : Tables → Bool → World → World
gives_up_lem t now w = step sound t (Abandon now) w

pub record Resumes (t : Tables) (power : List ℕ) (o : Opening t power) : Type 0 where
  -- state, answer, notes and cells are as if it had never stopped. (The board is plain storage: a register that counts
  -- its accesses would tell.)
  pub goes_on : (calls : List Call) (performed : Bool) (any : ℕ)
      → goes_on_lem t any (found_again t performed (world_after o calls)) ≡ step sound t (Confirm any) (world_after o calls)
  -- and as if it had abandoned then
  pub gives_up : (calls : List Call) (performed now : Bool)
      → gives_up_lem t now (found_again t performed (world_after o calls)) ≡ step sound t (Abandon (now || performed)) (world_after o calls)
