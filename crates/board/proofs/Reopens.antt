-- An opening in the middle of a run that is refused changes nothing but the last answer.
-- Assumes nothing.
use Prim.Native.Nat.{ℕ}
use mathlib.Core.Path.{◌≡◌, refl}
use mathlib.Core.Bool.{Bool}
use mathlib.Core.List.{List}
use Rattle.tables.specs.View.{Tables}
use Rattle.station.specs.Calls.{Outcome, opening_tests}
use Rattle.station.proofs.Refusals.{unless-cases}
use Rattle.board.specs.Board.{World, Reopen, answered, begun, unless_opened, step}

pub reopen-stays : (sound : Tables → Bool) (t : Tables) (w : World) (power : List ℕ) → step sound t (Reopen power) w ≡ answered w (step sound t (Reopen power) w).answer
reopen-stays sound t w power =
    unless-cases (λ (o : Outcome). unless_opened o.answer w (begun w o w.asked) ≡ answered w (unless_opened o.answer w (begun w o w.asked)).answer)
    (opening_tests sound t power w.state) w.state _ (λ n. refl) (λ passed. refl)
