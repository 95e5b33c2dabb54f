-- A station that stops midway and has kept what it was lent goes on as if it had not stopped: on storage an access
-- performed twice is performed once.
-- Assumes nothing.
use Prim.Native.Nat.{ℕ}
use mathlib.Core.Path.{◌≡◌, refl, ap, ap₂, fun_ext}
use mathlib.Core.Bool.{Bool, true, false, cond, ◌||◌}
use mathlib.Core.List.{List}
use mathlib.Core.Option.{Option, none, some}
use lib.Dec.{eqb}
use Rattle.tables.specs.View.{Tables, sound}
use Rattle.station.specs.declared.Access.{Access}
use Rattle.station.specs.Calls.{confirm, abandon}
use Rattle.board.specs.Board.{Cells, put, put_at, cell_at, reached, is_writing, perform, brought, World, Confirm, Abandon, moved, step}
use Rattle.board.specs.Demand.{Opening, world_after}
use Rattle.board.specs.Resumes.{found_again, goes_on_lem, gives_up_lem, Resumes}

put-again : (cells : Cells) (reach : Option ℕ) (byte r : ℕ) → put_at (put_at cells reach byte) reach byte r ≡ put_at cells reach byte r
unfolding put
put-again cells none byte r = refl
put-again cells (some q) byte r = go (eqb r q)
  where
    go : (b : Bool) → cond b byte (cond b byte (cells r)) ≡ cond b byte (cells r)
    go true = refl
    go false = refl

module _ (t : Tables) where
  perform-again : (offer : Option Access) (cells : Cells) (r : ℕ) → perform t offer (perform t offer cells) r ≡ perform t offer cells r
  perform-again none cells r = refl
  perform-again (some a) cells r = go (is_writing a.direction)
    where
      go : (b : Bool)
          → cond b (put_at (cond b (put_at cells (reached t a) a.byte) cells) (reached t a) a.byte) (cond b (put_at cells (reached t a) a.byte) cells) r
          ≡ cond b (put_at cells (reached t a) a.byte) cells r
      go true = put-again cells (reached t a) a.byte r
      go false = refl

  -- a write performed does not change what its confirmation brings
  brought-again : (offer : Option Access) (cells : Cells) (any : ℕ) → brought t offer (perform t offer cells) any ≡ brought t offer cells any
  brought-again none cells any = refl
  brought-again (some a) cells any = go (is_writing a.direction)
    where
      go : (b : Bool)
          → cond b any (cell_at (cond b (put_at cells (reached t a) a.byte) cells) (reached t a) any) ≡ cond b any (cell_at cells (reached t a) any)
      go true = refl
      go false = refl

  went_on : (w : World) (performed : Bool) (any : ℕ) → goes_on_lem t any (found_again t performed w) ≡ step sound t (Confirm any) w
  went_on w true any =
      ap₂ (λ (byte : ℕ) (cells : Cells). moved w (confirm sound t w.state byte) cells) (brought-again w.offer w.cells any)
      (fun_ext (perform-again w.offer w.cells))
  went_on w false any = refl

  gave_up : (w : World) (performed now : Bool) → gives_up_lem t now (found_again t performed w) ≡ step sound t (Abandon (now || performed)) w
  gave_up w true true = ap (moved w (abandon sound t w.state)) (fun_ext (perform-again w.offer w.cells))
  gave_up w true false = refl
  gave_up w false true = refl
  gave_up w false false = refl

pub resumes : {t : Tables} {power : List ℕ} (o : Opening t power) → Resumes t power o
resumes {t} o = record { goes_on = λ calls. went_on t (world_after o calls); gives_up = λ calls. gave_up t (world_after o calls) }
