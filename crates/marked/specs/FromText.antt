-- From a text to demand 3, in one claim: whatever loading accepts opens, and demand 3 holds of it.
-- proofs/FromText.antt proves it of every text.
-- Assumes nothing.
use Rattle.std.specs.Prelude.{ℕ, ◌≤◌, ◌≡◌, List, length}
use Rattle.tables.specs.View.{Tables, sound}
use Rattle.station.specs.declared.Answer.TheVariants.{Opened}
use Rattle.station.specs.Calls.{State, opening}
use Rattle.board.specs.Demand.{Demand3}

-- tables of r registers and v variables, as the verdict counts them: every opening that is long enough is opened, and
-- demand 3 holds
pub record Serves (t : Tables) (r v : ℕ) : Type 0 where
  pub opens : (power : List ℕ) (lent : State) → r ≤ length power → r ≤ length lent.kept → v ≤ length lent.marks → (opening sound t power lent).answer ≡ Opened
  pub demand : (power : List ℕ) → Demand3 t power
