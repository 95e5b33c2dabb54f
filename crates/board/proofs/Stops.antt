-- Stations that stop midway: what specs/Stops.antt says holds from every opening on.
-- (What is not claimed: that every bit outside an abandoned variable's own stays. A neighbour's write puts the record's
-- bits back over those of another half-written variable.)
-- Assumes nothing.
use Prim.Native.Nat.{ℕ, ◌<◌}
use mathlib.Core.Path.{◌≡◌, refl, sym, ap, ◌∙◌, subst}
use mathlib.Core.Logic.{◌⊎◌, inl, inr}
use mathlib.Core.Bool.{Bool, true, false, cond, true≢false, or-false}
use mathlib.Core.List.{List}
use mathlib.Core.Option.{Option, none, some}
use lib.Dec.{eqb}
use lib.IntN.{ℤ}
use borrow.Author.Tests.{eqb-true, eqb-false}
use Rattle.tables.specs.declared.Part.TheVariants.{Write as writing}
use Rattle.tables.specs.View.{Tables, sound, Consistent, variable_count, size, home_of, spot_of, registers_of, Among}
use Rattle.bits.specs.Bits.{bit}
use Rattle.station.specs.declared.Access.{Access}
use Rattle.station.specs.declared.Operation.{Operation}
use Rattle.station.specs.declared.Operation.TheVariants.{Idle, Reading, Writing}
use Rattle.station.specs.Calls.{is_allowed, on_offer}
use Rattle.bits.proofs.BitLaws.{number_same, number-bits}
use Rattle.station.proofs.Cases.{get_or-among}
use Rattle.station.proofs.Underway.{writing-allowed}
use Rattle.board.specs.Board.{Cells, put_at, reached, is_writing, to_be_set, bits_in, Asked, ToWrite, World, Call, BeginRead, BeginWrite, Confirm, Abandon, Reopen, perform, step, after}
use Rattle.board.specs.Demand.{Opening, power_on, world_after}
use Rattle.board.specs.Stops.{last_given, is_being_written, Settled, none_begins, Spared, AtWork}
use Rattle.board.proofs.Ledger.{at}
use Rattle.board.proofs.BoardLaws.{put_other}
use Rattle.board.proofs.Moves.{is_open}
use Rattle.board.proofs.Invariant.{opens_of}
use Rattle.board.proofs.Reopens.{reopen-stays}
use Rattle.board.proofs.Steps.{Linked, InvW, after-keeps, reach-write}
use Rattle.board.proofs.Onlooker.{half_is, after-settled}
use Rattle.board.proofs.World.{ok, rules, world-holds}
use Rattle.logic.proofs.Tests.{either}

-- ── one cell ──

put-elsewhere : (f : Cells) (reach : Option ℕ) (byte r : ℕ) → (reach ≡ some r → ⊥) → put_at f reach byte r ≡ f r
put-elsewhere f none byte r away = refl
put-elsewhere f (some q) byte r away = put_other f q byte (λ same. away (ap some (sym same)))

module _ (t : Tables) where
  perform-elsewhere : (offer : Option Access) (f : Cells) (r : ℕ) → (to_be_set t offer ≡ some r → ⊥) → perform t offer f r ≡ f r
  perform-elsewhere none f r away = refl
  perform-elsewhere (some a) f r away = go (is_writing a.direction) away
    where
      go : (b : Bool) → (cond b (reached t a) none ≡ some r → ⊥) → cond b (put_at f (reached t a) a.byte) f r ≡ f r
      go true away = put-elsewhere f (reached t a) a.byte r away
      go false away = refl

  elsewhere-stays : (call : Call) (w : World) (r : ℕ) → (to_be_set t w.offer ≡ some r → ⊥) → (step sound t call w).cells r ≡ w.cells r
  elsewhere-stays (BeginRead v) w r away = refl
  elsewhere-stays (BeginWrite v z) w r away = refl
  elsewhere-stays (Confirm any) w r away = perform-elsewhere w.offer w.cells r away
  elsewhere-stays (Abandon true) w r away = perform-elsewhere w.offer w.cells r away
  elsewhere-stays (Abandon false) w r away = refl
  elsewhere-stays (Reopen power) w r away = ap (λ (u : World). u.cells r) (reopen-stays sound t w power)

abbrev the_register : Option ℕ → ℕ
the_register none = 0
the_register (some r) = r

abbrev IsSome : Option ℕ → Type 0
IsSome none = ⊥
IsSome (some r) = Unit {0}

-- ── in any world of the invariant ──

module _ (t : Tables) (is-sound : sound t ≡ true) (c : Consistent t) (power : Cells) where
  abbrev Holding : World → Type 0
  Holding w = InvW sound t is-sound c power w

  -- what stands on offer to be set is a register of the write in hand
  own-offer : (op : Operation) (w : World) (r : ℕ) → w.state.operation ≡ op → Holding w → to_be_set t (on_offer t w.state op) ≡ some r
      → (v : ℕ) × (z : ℤ) × (w.asked ≡ ToWrite v z) × Among r (registers_of t writing v)
  own-offer Idle w r here i sets = absurd (subst IsSome (sym sets) tt)
  own-offer (Reading v n g) w r here i sets = absurd (subst IsSome (sym sets) tt)
  own-offer (Writing v n x) w r here i sets =
      let a = writing-allowed t v n x (ap (is_allowed t) (sym here) ∙ i.1.allowed) in
      let reaches = reach-write sound t is-sound c power w.state.kept v n x a.0 a.2 in (
        v,
        i.0,
        subst (λ (op : Operation). Linked w.asked op i.0) here i.2,
        subst (λ (q : ℕ). Among q (registers_of t writing v)) (ap the_register (sym reaches ∙ sets)) (get_or-among (registers_of t writing v) n a.2),
      )

  -- a settled variable is unmarked, and not open
  pub unmarked : (w : World) (v : ℕ) → Holding w → v < variable_count t → Settled w v → at w.state.marks v ≡ 0
  unmarked w v i hv settled = go (either (eqb (at w.state.marks v) 0))
    where
      go : (eqb (at w.state.marks v) 0 ≡ true) ⊎ (eqb (at w.state.marks v) 0 ≡ false) → at w.state.marks v ≡ 0
      go (inl e) = eqb-true _ _ e
      go (inr e) =
          absurd (true≢false (sym (half_is t power w.events v ((i.1.engine.tells v hv).1 (eqb-false _ _ e))) ∙ settled.whole))

  not-open : (op : Operation) (asked : Asked) (v : ℕ) (z : ℤ) → Linked asked op z → is_being_written asked v ≡ false → is_open (opens_of t c power op z) v ≡ false
  not-open Idle asked v z link rest = refl
  not-open (Reading u n g) asked v z link rest = refl
  not-open (Writing u n x) asked v z link rest = or-false (eqb v u) ∙ sym (ap (λ (q : Asked). is_being_written q v) link) ∙ rest

  -- so it holds the bits last given to it
  pub settled-bit : (w : World) (v j : ℕ) → Holding w → v < variable_count t → Settled w v → j < size t writing v
      → bit (spot_of t writing v j) (w.cells (home_of t writing v j)) ≡ bit j (last_given t power w.events v)
  settled-bit w v j i hv settled =
      (i.1.engine.clean v hv (unmarked w v i hv settled) (not-open w.state.operation w.asked v i.0 i.2 settled.at_rest)).1 j

  -- on the board and in the record
  pub settled-kept : (w : World) (v j : ℕ) → Holding w → v < variable_count t → Settled w v → j < size t writing v
      → bit (spot_of t writing v j) (at w.state.kept (home_of t writing v j)) ≡ bit j (last_given t power w.events v)
  settled-kept w v j i hv settled =
      (i.1.engine.clean v hv (unmarked w v i hv settled) (not-open w.state.operation w.asked v i.0 i.2 settled.at_rest)).0 j

  pub settled-number : (w : World) (v : ℕ) → Holding w → v < variable_count t → Settled w v → bits_in t writing v w.cells ≡ last_given t power w.events v
  unfolding bits_in
  settled-number w v i hv settled =
      number_same (size t writing v) _ (λ j. bit j (last_given t power w.events v)) (λ j hj. settled-bit w v j i hv settled hj)
      ∙ number-bits (size t writing v) (last_given t power w.events v) (i.1.engine.fits v hv)

  spared-by : (later : List Call) (w : World) (v : ℕ) → Holding w → v < variable_count t → Settled w v → none_begins later v ≡ true
      → Spared t power w (after sound t later w) v
  spared-by later w v i hv settled none_begins_lem =
      let still = after-settled sound t power later w v settled none_begins_lem in
      record {
        settled = still.settled;
        same_bits = settled-number (after sound t later w) v (after-keeps sound t is-sound c power later w i) hv still.settled
            ∙ still.notes.given ∙ sym (settled-number w v i hv settled);
        same-due = still.notes.due;
      }

-- ── from an opening on ──

module _ {t : Tables} {power : List ℕ} (o : Opening t power) where
  pub at-work : AtWork t power o
  at-work =
      record {
        one_cell = λ calls call r. elsewhere-stays t call (world_after o calls) r;
        own_cell = λ calls r sets.
            let i = world-holds o calls in
            own-offer t (ok o) (rules o) (power_on power) (world_after o calls).state.operation (world_after o calls) r refl i
            (ap (to_be_set t) (sym i.3) ∙ sets);
        settled-bits = λ calls v. settled-number t (ok o) (rules o) (power_on power) (world_after o calls) v (world-holds o calls);
        spared = λ calls later v. spared-by t (ok o) (rules o) (power_on power) later (world_after o calls) v (world-holds o calls);
      }
