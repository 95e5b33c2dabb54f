-- Sound tables pass refusal 20 at every call: so a run is computed with that test passed, and its size does not count.
-- Assumes nothing.
use Prim.Native.Nat.{ℕ}
use mathlib.Core.Path.{◌≡◌, refl, ap, ◌∙◌}
use mathlib.Core.Bool.{Bool, true}
use mathlib.Core.List.{List, [], ◌∷◌}
use Rattle.tables.specs.View.{Tables, sound}
use Rattle.station.specs.Calls.{State, unless}
use Rattle.board.specs.Board.{World, Call, BeginRead, BeginWrite, Confirm, Abandon, Reopen, step, after, opened}
use Rattle.board.specs.Demand.{Opening, world_after}

abbrev pub passed : Tables → Bool
passed t = true

module _ (t : Tables) (ok : sound t ≡ true) where
  step-passed : (call : Call) (w : World) → step sound t call w ≡ step passed t call w
  unfolding unless
  step-passed (BeginRead v) w = rw ok
  step-passed (BeginWrite v z) w = rw ok
  step-passed (Confirm any) w = rw ok
  step-passed (Abandon performed) w = rw ok
  step-passed (Reopen power) w = rw ok

  pub after-passed : (calls : List Call) (w : World) → after sound t calls w ≡ after passed t calls w
  unfolding after
  after-passed [] w = refl
  after-passed (call ∷ calls) w = after-passed calls (step sound t call w) ∙ ap (after passed t calls) (step-passed call w)

  pub opened-passed : (power : List ℕ) (s : State) → opened sound t power s ≡ opened passed t power s
  unfolding unless
  opened-passed power s = rw ok

  pub world-passed : {power : List ℕ} (o : Opening t power) (calls : List Call) → world_after o calls ≡ after passed t calls (opened passed t power o.lent)
  world-passed {power} o calls = after-passed calls (opened sound t power o.lent) ∙ ap (after passed t calls) (opened-passed power o.lent)
