-- Order that does not matter: two finished writes of unlike variables leave the same board, record and marks in either
-- order. proofs/Order.antt proves it.
-- Assumes nothing.
use Rattle.std.specs.Prelude.{ℕ, ◌≡◌, List, ◌++◌, ℤ, length}
use Rattle.tables.specs.declared.Part.TheVariants.{Write as writing}
use Rattle.tables.specs.View.{Tables, sound}
use Rattle.station.specs.Calls.{steps_of}
use Rattle.board.specs.Board.{Nothing, World, Call, after, whole_write}
use Rattle.board.specs.Demand.{Opening, world_after}
use Rattle.board.specs.Middle.{Takes}

-- the same board, record and marks
pub record SameLeft (w u : World) : Type 0 where
  pub cells : (r : ℕ) → w.cells r ≡ u.cells r
  pub kept : w.state.kept ≡ u.state.kept
  pub marks : w.state.marks ≡ u.state.marks

pub record EitherOrder (t : Tables) (power : List ℕ) (o : Opening t power) : Type 0 where
  pub same_left : (calls : List Call) (v u : ℕ) (z y : ℤ) (vs us vs' us' : List ℕ) → (world_after o calls).asked ≡ Nothing → (v ≡ u → ⊥)
      → Takes t v z → Takes t u y → length vs ≡ steps_of t writing v → length us ≡ steps_of t writing u
      → length vs' ≡ steps_of t writing v → length us' ≡ steps_of t writing u
      → SameLeft (after sound t (whole_write v z vs ++ whole_write u y us) (world_after o calls))
      (after sound t (whole_write u y us' ++ whole_write v z vs') (world_after o calls))
