-- The station offers what its own state has on offer: after each call the access that stands on offer, by the answers,
-- is the one that the operation left in hand calls for. So the board, which goes by answers alone, performs what the
-- station means. Assumes nothing.
use Prim.Native.Nat.{ℕ, suc}
use mathlib.Core.Path.{◌≡◌, refl, ap}
use mathlib.Core.Bool.{Bool, true, false, cond}
use mathlib.Core.List.{List, []}
use mathlib.Core.Option.{Option}
use lib.IntN.{ℤ}
use Rattle.tables.specs.declared.Part.TheVariants.{Read as reading, Write as writing}
use Rattle.tables.specs.View.{Tables, obeys}
use Rattle.station.specs.declared.Access.{Access}
use Rattle.station.specs.declared.Operation.{Operation}
use Rattle.station.specs.declared.Operation.TheVariants.{Idle, Reading, Writing}
use Rattle.station.specs.Calls.{State, Outcome, on_offer, checked, read_tests, write_tests, confirmed, abandoned, contradicted, read_on, write_on, is_last, begin_read, begin_write, confirm, abandon, gather, register_taken, keeping, write_access}
use Rattle.station.proofs.Refusals.{unless-cases}
use Rattle.board.proofs.Reopens.{reopen-stays}
use Rattle.board.specs.Board.{World, Call, BeginRead, BeginWrite, Confirm, Abandon, Reopen, brought, standing, step}

-- the outcome's state has on offer exactly what its answer leaves standing
abbrev Told : Tables → State → Outcome → Type 0
Told t s o = standing o.answer (on_offer t s s.operation) ≡ on_offer t o.state o.state.operation

module _ (sound : Tables → Bool) (t : Tables) where
  read_told : (s : State) (v : ℕ) → Told t s (begin_read sound t s v)
  read_told s v = unless-cases (Told t s) (read_tests sound t s v) s _ (λ n. refl) (λ none-holds. refl)

  write-told : (s : State) (v : ℕ) (z : ℤ) → Told t s (begin_write sound t s v z)
  write-told s v z = unless-cases (Told t s) (write_tests sound t s v z) s _ (λ n. refl) (λ none-holds. refl)

  read_on_lem : (s : State) (b : Bool) (v n g : ℕ) → Told t s (read_on b t s v n g)
  read_on_lem s true v n g = refl
  read_on_lem s false v n g = refl

  write_on_lem : (s left : State) (b : Bool) (v n x : ℕ) → Told t s (write_on b t left v n x)
  write_on_lem s left true v n x = refl
  write_on_lem s left false v n x = refl

  or-stops : (s : State) (obeyed : Bool) (o : Outcome) (r : ℕ) → Told t s o → Told t s (cond obeyed o (contradicted r s))
  or-stops s true o r told-so = told-so
  or-stops s false o r told-so = refl

  goes_on : (k m : List ℕ) (op : Operation) (byte : ℕ) → let s : State = record { kept = k; marks = m; operation = op } in Told t s (confirmed t s op byte)
  goes_on k m Idle byte = refl
  goes_on k m (Reading v n g) byte =
      let s : State = record { kept = k; marks = m; operation = Reading v n g } in
      or-stops s (obeys t reading (register_taken t reading v n) byte) _ (register_taken t reading v n)
      (read_on_lem s (is_last t reading v (suc n)) v (suc n) (gather t v g (register_taken t reading v n) byte))
  goes_on k m (Writing v n x) byte =
      let s : State = record { kept = k; marks = m; operation = Writing v n x } in
      write_on_lem s (keeping s (register_taken t writing v n) (write_access t s v n x).byte) (is_last t writing v (suc n)) v (suc n) x

  confirm-told : (s : State) (byte : ℕ) → Told t s (confirm sound t s byte)
  confirm-told s byte = unless-cases (Told t s) (checked sound t s []) s _ (λ n. refl) (λ none-holds. goes_on s.kept s.marks s.operation byte)

  ends : (k m : List ℕ) (op : Operation) → let s : State = record { kept = k; marks = m; operation = op } in Told t s (abandoned s op)
  ends k m Idle = refl
  ends k m (Reading v n g) = refl
  ends k m (Writing v n x) = refl

  abandon-told : (s : State) → Told t s (abandon sound t s)
  abandon-told s = unless-cases (Told t s) (checked sound t s []) s _ (λ n. refl) (λ none-holds. ends s.kept s.marks s.operation)

  -- ── worlds ──

  -- this world, with on offer what its station's operation calls for
  abbrev pub linked : World → World
  linked w =
      record {
        state = w.state;
        cells = w.cells;
        offer = on_offer t w.state w.state.operation;
        asked = w.asked;
        events = w.events;
        answer = w.answer;
      }

  pub as-linked : (w : World) → w.offer ≡ on_offer t w.state w.state.operation → w ≡ linked w
  as-linked w e =
      ap (λ (a : Option Access). record { state = w.state; cells = w.cells; offer = a; asked = w.asked; events = w.events; answer = w.answer }) e

  -- every call leaves a world of that kind
  pub told : (call : Call) (w : World)
      → (step sound t call (linked w)).offer ≡ on_offer t (step sound t call (linked w)).state (step sound t call (linked w)).state.operation
  told (BeginRead v) w = read_told w.state v
  told (BeginWrite v z) w = write-told w.state v z
  told (Confirm any) w = confirm-told w.state (brought t (on_offer t w.state w.state.operation) w.cells any)
  told (Abandon performed) w = abandon-told w.state
  told (Reopen power) w = rw (reopen-stays sound t (linked w) power) refl
