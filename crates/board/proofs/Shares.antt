-- A register's share of a variable, the bits of it that live there: calls that do not write the variable leave it in
-- the record, and in the cell leave it or make it the record's.
-- Assumes nothing.
use Prim.Native.Nat.{ℕ, suc, ◌<◌}
use mathlib.Core.Path.{◌≡◌, refl, sym, ap, ◌∙◌, subst}
use mathlib.Core.Logic.{◌⊎◌, inl, inr}
use mathlib.Core.Bool.{Bool, true, false, cond, not}
use mathlib.Core.List.{List, [], ◌∷◌}
use mathlib.Core.Option.{Option}
use lib.Dec.{eqb}
use lib.IntN.{ℤ}
use lib.ListN.{set}
use borrow.Author.Tests.{eqb-true, eqb-false, not-true}
use Rattle.bits.specs.Bits.{bit}
use Rattle.tables.specs.declared.Part.TheVariants.{Read as reading, Write as writing}
use Rattle.tables.specs.View.{Tables, sound, Consistent, variable_count, size, home_of, spot_of, obeys}
use Rattle.station.specs.declared.Access.{Access}
use Rattle.station.specs.declared.Operation.{Operation}
use Rattle.station.specs.declared.Operation.TheVariants.{Idle, Reading, Writing}
use Rattle.station.specs.Calls.{State, Outcome, kept_of, written_byte, register_taken, is_last, gather, contradicted, read_on, write_on, keeping, on_offer, confirmed, abandoned, read_tests, write_tests}
use Rattle.station.proofs.ByteLaws.{byte-other}
use Rattle.station.proofs.Refusals.{unless-cases}
use Rattle.station.proofs.Underway.{writing-allowed}
use Rattle.board.specs.Board.{Cells, put, Event, Asked, ToWrite, perform, brought, World, Call, BeginRead, BeginWrite, Confirm, Abandon, Reopen, step, after}
use Rattle.board.specs.Stops.{is_being_written, begins, none_begins}
use Rattle.board.specs.Middle.{ShareIs}
use Rattle.board.proofs.BoardLaws.{put_same, put_other, set-is-put}
use Rattle.board.proofs.Ledger.{at}
use Rattle.board.proofs.Invariant.{Inv, byte_at, register-kept}
use Rattle.board.proofs.Reopens.{reopen-stays}
use Rattle.board.proofs.Steps.{Linked, InvW, state_of, checked-alone, reach-write, step_keeps}
use Rattle.board.proofs.Onlooker.{closed-rests, taken-rests}
use Rattle.logic.proofs.Tests.{either, both}

module _ (t : Tables) where
  -- the share of v in register r is the same
  abbrev pub SameShare : Cells → Cells → ℕ → ℕ → Type 0
  SameShare f g v r = (j : ℕ) → j < size t writing v → home_of t writing v j ≡ r → bit (spot_of t writing v j) (f r) ≡ bit (spot_of t writing v j) (g r)

  all_same : (f : Cells) (v r : ℕ) → SameShare f f v r
  all_same f v r j hj at-r = refl

  share_of : (f g : Cells) (v r x : ℕ) → SameShare f g v r → ShareIs t g v r x → ShareIs t f v r x
  share_of f g v r x same is j hj at-r = same j hj at-r ∙ is j hj at-r

  -- old or new
  abbrev pub OneOf : Cells → ℕ → ℕ → ℕ → ℕ → Type 0
  OneOf f v r old new = ShareIs t f v r old ⊎ ShareIs t f v r new

  pub one_of : (f g : Cells) (v r old new : ℕ) → SameShare f g v r → OneOf g v r old new → OneOf f v r old new
  one_of f g v r old new same (inl is) = inl (share_of f g v r old same is)
  one_of f g v r old new same (inr is) = inr (share_of f g v r new same is)

module _ (t : Tables) (is-sound : sound t ≡ true) (c : Consistent t) (power : Cells) where
  -- another variable's number at register s has v's bits from the record
  put_share : (f kept : Cells) (u x s v r : ℕ) → u < variable_count t → v < variable_count t → (u ≡ v → ⊥)
      → SameShare t (put f s (written_byte t kept u x s)) f v r ⊎ SameShare t (put f s (written_byte t kept u x s)) kept v r
  put_share f kept u x s v r hu hv apart = go (either (eqb r s))
    where
      go : (eqb r s ≡ true) ⊎ (eqb r s ≡ false)
          → SameShare t (put f s (written_byte t kept u x s)) f v r ⊎ SameShare t (put f s (written_byte t kept u x s)) kept v r
      go (inl e) =
          inr (λ j hj at-r.
          let same = eqb-true r s e in
          ap (bit (spot_of t writing v j)) (put_same f s (written_byte t kept u x s) same ∙ ap (written_byte t kept u x) (sym (at-r ∙ same)))
          ∙ byte-other t c kept u x v j hu hv apart hj ∙ ap (λ (q : ℕ). bit (spot_of t writing v j) (kept q)) at-r)
      go (inr n) = inl (λ j hj at-r. ap (bit (spot_of t writing v j)) (put_other f s (written_byte t kept u x s) (eqb-false r s n)))

  -- v is not the variable of the write in hand
  abbrev Other : Operation → ℕ → Type 0
  Other Idle v = Unit {0}
  Other (Reading u n g) v = Unit {0}
  Other (Writing u n x) v = u ≡ v → ⊥

  others : (op : Operation) (asked : Asked) (z : ℤ) (v : ℕ) → Linked asked op z → is_being_written asked v ≡ false → Other op v
  others Idle asked z v link rest = tt
  others (Reading u n g) asked z v link rest = tt
  others (Writing u n x) asked z v link rest = λ same. eqb-false v u (ap (λ (q : Asked). is_being_written q v) (sym link) ∙ rest) (sym same)

  -- the record after a confirmation
  kept_share : (k m : List ℕ) (op : Operation) (f : Cells) (z : ℤ) (es : List Event) (byte v r : ℕ) → Inv t c power k m op f z es → v < variable_count t → Other op v
      → SameShare t (at (confirmed t (state_of sound t is-sound c power k m op) op byte).state.kept) (at k) v r
  kept_share k m Idle f z es byte v r i hv other = all_same t (at k) v r
  kept_share k m (Reading u n g) f z es byte v r i hv other =
      or-stops (obeys t reading s byte) (go (is_last t reading u (suc n)))
    where
      s : ℕ
      s = register_taken t reading u n

      st : State
      st = state_of sound t is-sound c power k m (Reading u n g)

      go : (last : Bool) → SameShare t (at (read_on last t st u (suc n) (gather t u g s byte)).state.kept) (at k) v r
      go true = all_same t (at k) v r
      go false = all_same t (at k) v r

      or-stops : (obeyed : Bool) → SameShare t (at (read_on (is_last t reading u (suc n)) t st u (suc n) (gather t u g s byte)).state.kept) (at k) v r
          → SameShare t (at (cond obeyed (read_on (is_last t reading u (suc n)) t st u (suc n) (gather t u g s byte)) (contradicted s st)).state.kept) (at k) v r
      or-stops true goes = goes
      or-stops false goes = all_same t (at k) v r
  kept_share k m (Writing u n x) f z es byte v r i hv other = go (is_last t writing u (suc n))
    where
      a : u < variable_count t
      a = (writing-allowed t u n x i.allowed).0

      s : ℕ
      s = register_taken t writing u n

      after-set : SameShare t (at (set k s (byte_at t c power k u x n))) (at k) v r
      after-set j hj at-r =
          ap (bit (spot_of t writing v j)) (set-is-put k s (byte_at t c power k u x n) r (register-kept t c power k m f z es u n x i))
          ∙ either_way (put_share (at k) (at k) u x s v r a hv other) j hj at-r
        where
          either_way : SameShare t (put (at k) s (written_byte t (at k) u x s)) (at k) v r ⊎ SameShare t (put (at k) s (written_byte t (at k) u x s)) (at k) v r
              → SameShare t (put (at k) s (written_byte t (at k) u x s)) (at k) v r
          either_way (inl same) = same
          either_way (inr same) = same

      go : (last : Bool)
          → SameShare t (at (write_on last t (keeping (state_of sound t is-sound c power k m (Writing u n x)) s (byte_at t c power k u x n)) u (suc n) x).state.kept) (at k) v r
      go true = after-set
      go false = after-set

  -- the cells after the access on offer
  cell_share : (k m : List ℕ) (op : Operation) (f : Cells) (z : ℤ) (es : List Event) (v r : ℕ) → Inv t c power k m op f z es → v < variable_count t → Other op v
      → let g : Cells = perform t (on_offer t (state_of sound t is-sound c power k m op) op) f in SameShare t g f v r ⊎ SameShare t g (at k) v r
  cell_share k m Idle f z es v r i hv other = inl (all_same t f v r)
  cell_share k m (Reading u n g) f z es v r i hv other = inl (all_same t f v r)
  cell_share k m (Writing u n x) f z es v r i hv other =
      let a = writing-allowed t u n x i.allowed in
      rw (reach-write sound t is-sound c power k u n x a.0 a.2) (put_share f (at k) u x (register_taken t writing u n) v r a.0 hv other)

  -- ── a call ──

  -- what it leaves of v's share in register r
  pub record Spares (w u : World) (v r : ℕ) : Type 0 where
    pub in_record : SameShare t (kept_of u.state) (kept_of w.state) v r
    pub in_cell : SameShare t u.cells w.cells v r ⊎ SameShare t u.cells (kept_of w.state) v r

  untouched : (w u : World) (v r : ℕ) → u.state.kept ≡ w.state.kept → u.cells ≡ w.cells → Spares w u v r
  untouched w u v r same_kept same-cells =
      record {
        in_record = λ j hj at-r. ap (λ (k : List ℕ). bit (spot_of t writing v j) (at k r)) same_kept;
        in_cell = inl (λ j hj at-r. ap (λ (f : Cells). bit (spot_of t writing v j) (f r)) same-cells);
      }

  offered : (w : World) (v r : ℕ) → InvW sound t is-sound c power w → v < variable_count t → is_being_written w.asked v ≡ false
      → SameShare t (perform t w.offer w.cells) w.cells v r ⊎ SameShare t (perform t w.offer w.cells) (kept_of w.state) v r
  offered w v r i hv rest =
      subst (λ (offer : Option Access). SameShare t (perform t offer w.cells) w.cells v r ⊎ SameShare t (perform t offer w.cells) (kept_of w.state) v r) (sym i.3)
      (cell_share w.state.kept w.state.marks w.state.operation w.cells i.0 w.events v r i.1 hv
      (others w.state.operation w.asked i.0 v i.2 rest))

  abandoned-kept : (s : State) (op : Operation) → (abandoned s op).state.kept ≡ s.kept
  abandoned-kept s Idle = refl
  abandoned-kept s (Reading u n g) = refl
  abandoned-kept s (Writing u n x) = refl

  pub abandon-kept : (w : World) (performed : Bool) → InvW sound t is-sound c power w → (step sound t (Abandon performed) w).state.kept ≡ w.state.kept
  abandon-kept w performed i =
      let s = w.state in
      ap (λ (o : Outcome). o.state.kept) (checked-alone sound t is-sound c power s (abandoned s s.operation) i.1.engine.long i.1.allowed)
      ∙ abandoned-kept s s.operation

  abandon_share : (w : World) (performed : Bool) (v r : ℕ) → InvW sound t is-sound c power w → v < variable_count t → is_being_written w.asked v ≡ false
      → Spares w (step sound t (Abandon performed) w) v r
  abandon_share w performed v r i hv rest =
      record {
        in_record = λ j hj at-r. ap (λ (k : List ℕ). bit (spot_of t writing v j) (at k r)) (abandon-kept w performed i);
        in_cell = go performed;
      }
    where
      go : (p : Bool) → let f : Cells = cond p (perform t w.offer w.cells) w.cells in
          SameShare t f w.cells v r ⊎ SameShare t f (kept_of w.state) v r
      go true = offered w v r i hv rest
      go false = inl (all_same t w.cells v r)

  step_share : (call : Call) (w : World) (v r : ℕ) → InvW sound t is-sound c power w → v < variable_count t → is_being_written w.asked v ≡ false
      → Spares w (step sound t call w) v r
  step_share (BeginRead u) w v r i hv rest =
      untouched w _ v r (unless-cases (λ (o : Outcome). o.state.kept ≡ w.state.kept) (read_tests sound t w.state u) w.state _ (λ n. refl) (λ passed. refl)) refl
  step_share (BeginWrite u z) w v r i hv rest =
      untouched w _ v r (unless-cases (λ (o : Outcome). o.state.kept ≡ w.state.kept) (write_tests sound t w.state u z) w.state _ (λ n. refl) (λ passed. refl)) refl
  step_share (Confirm any) w v r i hv rest =
      let s = w.state in
      let byte = brought t w.offer w.cells any in
      record {
        in_record = rw (checked-alone sound t is-sound c power s (confirmed t s s.operation byte) i.1.engine.long i.1.allowed)
            (kept_share s.kept s.marks s.operation w.cells i.0 w.events byte v r i.1 hv (others s.operation w.asked i.0 v i.2 rest));
        in_cell = offered w v r i hv rest;
      }
  step_share (Abandon performed) w v r i hv rest = abandon_share w performed v r i hv rest
  step_share (Reopen numbers) w v r i hv rest =
      let stays = reopen-stays sound t w numbers in
      untouched w _ v r (ap (λ (x : World). x.state.kept) stays) (ap (λ (x : World). x.cells) stays)

  step-rests : (call : Call) (w : World) (v : ℕ) → is_being_written w.asked v ≡ false → begins call v ≡ false → is_being_written (step sound t call w).asked v ≡ false
  step-rests (BeginRead u) w v rest other = taken-rests (step sound t (BeginRead u) w).answer w.asked _ v rest refl
  step-rests (BeginWrite u z) w v rest other = taken-rests (step sound t (BeginWrite u z) w).answer w.asked (ToWrite u z) v rest other
  step-rests (Confirm any) w v rest other = closed-rests (step sound t (Confirm any) w).answer w.asked v rest
  step-rests (Abandon performed) w v rest other = closed-rests (step sound t (Abandon performed) w).answer w.asked v rest
  step-rests (Reopen numbers) w v rest other = rw (reopen-stays sound t w numbers) rest

  -- ── any calls ──

  -- old or new, in the record and in the cell
  pub record Whole (w : World) (v r old new : ℕ) : Type 0 where
    pub in_record : OneOf t (kept_of w.state) v r old new
    pub in_cell : OneOf t w.cells v r old new

  stays-whole : (w u : World) (v r old new : ℕ) → Spares w u v r → Whole w v r old new → Whole u v r old new
  stays-whole w u v r old new spares whole =
      record {
        in_record = one_of t (kept_of u.state) (kept_of w.state) v r old new spares.in_record whole.in_record;
        in_cell = go spares.in_cell;
      }
    where
      go : SameShare t u.cells w.cells v r ⊎ SameShare t u.cells (kept_of w.state) v r → OneOf t u.cells v r old new
      go (inl same) = one_of t u.cells w.cells v r old new same whole.in_cell
      go (inr same) = one_of t u.cells (kept_of w.state) v r old new same whole.in_record

  pub after-whole : (calls : List Call) (w : World) (v r old new : ℕ) → InvW sound t is-sound c power w → v < variable_count t → is_being_written w.asked v ≡ false
      → none_begins calls v ≡ true → Whole w v r old new → Whole (after sound t calls w) v r old new
  unfolding after none_begins
  after-whole [] w v r old new i hv rest none whole = whole
  after-whole (call ∷ calls) w v r old new i hv rest none whole =
      let parts = both (not (begins call v)) _ none in
      after-whole calls (step sound t call w) v r old new (step_keeps sound t is-sound c power call w i) hv (step-rests call w v rest (not-true _ parts.0)) parts.1
      (stays-whole w (step sound t call w) v r old new (step_share call w v r i hv rest) whole)
