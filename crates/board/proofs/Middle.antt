-- The middle of a write: where it was begun, what it has set since, and what is left of it when it was abandoned.
-- Assumes nothing.
use Prim.Native.Nat.{ℕ, suc, ◌<◌}
use mathlib.Core.Path.{◌≡◌, refl, sym, ap, ap₂, ◌∙◌, subst}
use mathlib.Core.Logic.{inl, inr}
use mathlib.Core.Bool.{Bool, true, false, cond, not, ◌&&◌, true≢false}
use mathlib.Core.List.{List, [], ◌∷◌, ◌++◌, append-nil, append_assoc}
use lib.IntN.{ℤ, pos}
use lib.ListN.{length, take}
use borrow.Author.Tests.{ltb-true, not-false}
use Rattle.bits.specs.Bits.{bit}
use Rattle.bits.specs.Values.{encode}
use Rattle.bits.proofs.RangeLaws.{neither}
use Rattle.tables.specs.declared.Part.TheVariants.{Write as writing}
use Rattle.tables.specs.View.{Tables, sound, variable_count, kind_of, size, spot_of, registers_of, is_among}
use Rattle.station.specs.declared.Answer.{Answer}
use Rattle.station.specs.declared.Answer.TheVariants.{Refused, Stopped, Opened, Offer as Offered, Done, Abandoned as Ended}
use Rattle.station.specs.declared.Operation.{Operation}
use Rattle.station.specs.declared.Operation.TheVariants.{Idle, Reading, Writing}
use Rattle.station.specs.Calls.{State, Outcome, kept_of, is_in_hand, is_last, written_byte, read_tests, write_tests, abandoned, begun_write, write_on, register_taken}
use Rattle.station.proofs.ByteLaws.{byte-own}
use Rattle.station.proofs.Refusals.{unless-cases}
use Rattle.station.proofs.Underway.{writing-allowed}
use Rattle.board.specs.Board.{Cells, put, Event, Asked, Nothing, ToRead, ToWrite, closed, World, Call, BeginRead, BeginWrite, Confirm, Abandon, Reopen, begun, moved, step, after, opened}
use Rattle.board.specs.Demand.{Opening, power_on, world_after}
use Rattle.board.specs.Stops.{last_given, is_half, is_being_written, Settled, left_by}
use Rattle.board.specs.Middle.{Takes, confirmations, ends, none_ends, set_so_far, wrote_over, UnderWay, ShareIs, Middle}
use Rattle.board.proofs.Ledger.{at}
use Rattle.board.proofs.Invariant.{Inv, byte_at}
use Rattle.board.proofs.Offers.{as-linked}
use Rattle.board.proofs.Reopens.{reopen-stays}
use Rattle.board.proofs.Steps.{Linked, InvW, checked-alone, step_keeps}
use Rattle.board.proofs.ReadBack.{world}
use Rattle.board.proofs.Writes.{Underway, underway-more, kept_on, write_moves, part_left, after-append}
use Rattle.board.proofs.Stops.{settled-bit, settled-kept}
use Rattle.board.proofs.Shares.{OneOf, Whole, abandon-kept, after-whole}
use Rattle.board.proofs.World.{ok, rules, world-holds}

-- ── counting calls ──

one_more_lem : (calls : List Call) (any : ℕ) → confirmations (calls ++ (Confirm any ∷ [])) ≡ suc (confirmations calls)
unfolding confirmations
one_more_lem [] any = refl
one_more_lem (BeginRead v ∷ calls) any = one_more_lem calls any
one_more_lem (BeginWrite v z ∷ calls) any = one_more_lem calls any
one_more_lem (Confirm a ∷ calls) any = ap suc (one_more_lem calls any)
one_more_lem (Abandon performed ∷ calls) any = one_more_lem calls any
one_more_lem (Reopen power ∷ calls) any = one_more_lem calls any

no_more : (calls : List Call) (call : Call) → confirmations (call ∷ []) ≡ 0 → confirmations (calls ++ (call ∷ [])) ≡ confirmations calls
unfolding confirmations
no_more [] call none = none
no_more (BeginRead v ∷ calls) call none = no_more calls call none
no_more (BeginWrite v z ∷ calls) call none = no_more calls call none
no_more (Confirm a ∷ calls) call none = ap suc (no_more calls call none)
no_more (Abandon performed ∷ calls) call none = no_more calls call none
no_more (Reopen power ∷ calls) call none = no_more calls call none

none_yet : (calls : List Call) (call : Call) → none_ends calls ≡ true → ends call ≡ false → none_ends (calls ++ (call ∷ [])) ≡ true
unfolding none_ends
none_yet [] call so_far other = rw other
none_yet (first ∷ calls) call so_far other = go (ends first) so_far (λ rest. none_yet calls call rest other)
  where
    go : (b : Bool) → (not b && none_ends calls) ≡ true → (none_ends calls ≡ true → none_ends (calls ++ (call ∷ [])) ≡ true)
        → (not b && none_ends (calls ++ (call ∷ []))) ≡ true
    go true e rest = e
    go false e rest = rest e

-- ── what is asked ──

abbrev IsToWrite : Asked → Type 0
IsToWrite Nothing = ⊥
IsToWrite (ToRead v) = ⊥
IsToWrite (ToWrite v z) = Unit {0}

abbrev variable_of : Asked → ℕ
variable_of Nothing = 0
variable_of (ToRead v) = v
variable_of (ToWrite v z) = v

abbrev value_asked : Asked → ℤ
value_asked Nothing = pos 0
value_asked (ToRead v) = pos 0
value_asked (ToWrite v z) = z

-- a write that is not closed was asked before
still-asked : (a : Answer) (asked : Asked) (v : ℕ) (z : ℤ) → closed a asked ≡ ToWrite v z → asked ≡ ToWrite v z
still-asked (Refused n) asked v z e = e
still-asked (Stopped n r) asked v z e = absurd (subst IsToWrite (sym e) tt)
still-asked Opened asked v z e = e
still-asked (Offered a) asked v z e = e
still-asked (Done y n) asked v z e = absurd (subst IsToWrite (sym e) tt)
still-asked Ended asked v z e = absurd (subst IsToWrite (sym e) tt)

-- ── the trail of a write ──

module _ {t : Tables} {power : List ℕ} (o : Opening t power) where
  abbrev pub bits : ℕ → ℤ → ℕ
  bits v z = encode (size t writing v) z

  abbrev Holds : World → Type 0
  Holds w = InvW sound t (ok o) (rules o) (power_on power) w

  -- these calls led to this world, and a write was begun among them that is in hand
  pub record Begun (done : List Call) (w : World) (v : ℕ) (z : ℤ) : Type 0 where
    pub before : List Call
    pub since : List Call
    pub begun : done ≡ before ++ (BeginWrite v z ∷ since)
    pub idle : (world_after o before).asked ≡ Nothing
    pub takes : Takes t v z
    pub unended : none_ends since ≡ true
    pub in_hand_law : w.state.operation ≡ Writing v (confirmations since) (bits v z)
    pub so_far : Underway sound t (ok o) (rules o) (power_on power) (world_after o before) w.state.kept w.cells v (confirmations since) (bits v z)
    pub same-events : w.events ≡ (world_after o before).events

  abbrev Trail : List Call → World → Type 0
  Trail done w = (v : ℕ) (z : ℤ) → w.asked ≡ ToWrite v z → Begun done w v z

  -- a call that neither ends nor confirms, and leaves state, cells and notes
  passed-by : (done : List Call) (w u : World) (call : Call) (v : ℕ) (z : ℤ) → u.state ≡ w.state → u.cells ≡ w.cells → u.events ≡ w.events
      → confirmations (call ∷ []) ≡ 0 → ends call ≡ false → Begun done w v z → Begun (done ++ (call ∷ [])) u v z
  passed-by done w u call v z same-state same-cells same-notes none other b =
      let count = no_more b.since call none in
      record {
        before = b.before;
        since = b.since ++ (call ∷ []);
        begun = ap (λ (l : List Call). l ++ (call ∷ [])) b.begun ∙ append_assoc b.before (BeginWrite v z ∷ b.since) (call ∷ []);
        idle = b.idle;
        takes = b.takes;
        unended = none_yet b.since call b.unended other;
        in_hand_law = ap (λ (s : State). s.operation) same-state ∙ b.in_hand_law ∙ ap (λ (n : ℕ). Writing v n (bits v z)) (sym count);
        so_far = rw (same-state, same-cells, count) b.so_far;
        same-events = same-notes ∙ b.same-events;
      }

  -- a begin that is taken on
  begins_trail : (done : List Call) (w : World) (v : ℕ) (z : ℤ) → w ≡ world_after o done → w.asked ≡ Nothing → Takes t v z → (u : World)
      → u.state.operation ≡ Writing v 0 (bits v z) → u.state.kept ≡ w.state.kept → u.cells ≡ w.cells → u.events ≡ w.events
      → Begun (done ++ (BeginWrite v z ∷ [])) u v z
  unfolding confirmations none_ends
  begins_trail done w v z here nothing takes u in_hand_law same_kept same-cells same-notes =
      record {
        before = done;
        since = [];
        begun = refl;
        idle = ap (λ (x : World). x.asked) (sym here) ∙ nothing;
        takes = takes;
        unended = refl;
        in_hand_law = in_hand_law;
        so_far = record {
          in_record = λ r. ap (λ (k : List ℕ). at k r) (same_kept ∙ ap (λ (x : World). x.state.kept) here);
          in_cells = λ r. ap (λ (f : Cells). f r) (same-cells ∙ ap (λ (x : World). x.cells) here);
          as_long = ap length (same_kept ∙ ap (λ (x : World). x.state.kept) here);
        };
        same-events = same-notes ∙ ap (λ (x : World). x.events) here;
      }

  -- one call more: the write is begun by it, goes on with it, or is left alone by it
  trail_begin_read : (done : List Call) (w : World) (u : ℕ) → Trail done w → Trail (done ++ (BeginRead u ∷ [])) (step sound t (BeginRead u) w)
  unfolding confirmations
  trail_begin_read done w u trail v z =
      unless-cases (λ (q : Outcome). (begun w q (ToRead u)).asked ≡ ToWrite v z → Begun (done ++ (BeginRead u ∷ [])) (begun w q (ToRead u)) v z)
      (read_tests sound t w.state u) w.state _
      (λ n e. passed-by done w _ (BeginRead u) v z refl refl refl refl refl (trail v z e)) (λ passed e. absurd (subst IsToWrite (sym e) tt))

  trail_reopen : (done : List Call) (w : World) (numbers : List ℕ) → Trail done w → Trail (done ++ (Reopen numbers ∷ [])) (step sound t (Reopen numbers) w)
  unfolding confirmations
  trail_reopen done w numbers trail v z e =
      let stays = reopen-stays sound t w numbers in
      passed-by done w _ (Reopen numbers) v z (ap (λ (x : World). x.state) stays) (ap (λ (x : World). x.cells) stays) (ap (λ (x : World). x.events) stays) refl refl
      (trail v z (sym (ap (λ (x : World). x.asked) stays) ∙ e))

  not_in-hand : (op : Operation) (asked : Asked) (z : ℤ) → Linked asked op z → is_in_hand op ≡ false → asked ≡ Nothing
  not_in-hand Idle asked z link free = link
  not_in-hand (Reading v n g) asked z link free = absurd (true≢false free)
  not_in-hand (Writing v n x) asked z link free = absurd (true≢false free)

  trail_begin_write : (done : List Call) (w : World) (u : ℕ) (y : ℤ) → w ≡ world_after o done → Holds w → Trail done w
      → Trail (done ++ (BeginWrite u y ∷ [])) (step sound t (BeginWrite u y) w)
  unfolding confirmations
  trail_begin_write done w u y here i trail v z =
      unless-cases (λ (q : Outcome). (begun w q (ToWrite u y)).asked ≡ ToWrite v z → Begun (done ++ (BeginWrite u y ∷ [])) (begun w q (ToWrite u y)) v z)
      (write_tests sound t w.state u y) w.state _
      (λ n e. passed-by done w _ (BeginWrite u y) v z refl refl refl refl refl (trail v z e))
      λ passed e.
      let (_, (_, (_, (free, (there, (has, (low, (high, _)))))))) = passed in
      let takes : Takes t u y = record {
        exists = ltb-true _ _ (not-false _ there);
        has_part = not-false _ has;
        fits = neither (kind_of t u) (size t writing u) y low high;
      } in
      let same : ToWrite u y ≡ ToWrite v z = e in
      subst (λ (a : ℕ). Begun (done ++ (BeginWrite u y ∷ [])) (begun w (begun_write t w.state u (bits u y)) (ToWrite u y)) a z) (ap variable_of same)
      (subst (λ (b : ℤ). Begun (done ++ (BeginWrite u y ∷ [])) (begun w (begun_write t w.state u (bits u y)) (ToWrite u y)) u b) (ap value_asked same)
      (begins_trail done w u y here (not_in-hand w.state.operation w.asked i.0 i.2 free) takes _ refl refl refl refl))

  -- a world in which a write is in hand, written out
  written_out : (w : World) (v : ℕ) (z : ℤ) (n : ℕ) → Holds w → w.state.operation ≡ Writing v n (bits v z) → w.asked ≡ ToWrite v z
      → w ≡ world t w.state.kept w.state.marks (Writing v n (bits v z)) w.cells (ToWrite v z) w.events w.answer
  written_out w v z n i in_hand_law asked =
      as-linked sound t w i.3
      ∙ ap₂ (λ (op : Operation) (q : Asked). world t w.state.kept w.state.marks op w.cells q w.events w.answer) in_hand_law asked

  -- its confirmation
  confirm_trail : (done : List Call) (k m : List ℕ) (f : Cells) (es : List Event) (y : ℤ) (v : ℕ) (z : ℤ) (any : ℕ) (a : Answer) (b : List Call) (since : List Call)
      → done ≡ b ++ (BeginWrite v z ∷ since) → (world_after o b).asked ≡ Nothing → Takes t v z → none_ends since ≡ true
      → Inv t (rules o) (power_on power) k m (Writing v (confirmations since) (bits v z)) f y es
      → Underway sound t (ok o) (rules o) (power_on power) (world_after o b) k f v (confirmations since) (bits v z)
      → es ≡ (world_after o b).events → (last : Bool)
      → let n = confirmations since in
      let u : World = moved (world t k m (Writing v n (bits v z)) f (ToWrite v z) es a)
      (write_on last t (kept_on sound t (ok o) (rules o) (power_on power) k m v n (bits v z)) v (suc n) (bits v z))
      (put f (register_taken t writing v n) (byte_at t (rules o) (power_on power) k v (bits v z) n)) in
      u.asked ≡ ToWrite v z → Begun (done ++ (Confirm any ∷ [])) u v z
  confirm_trail done k m f es y v z any a b since is-begun idle takes unended i so_far same-notes true e = absurd (subst IsToWrite (sym e) tt)
  confirm_trail done k m f es y v z any a b since is-begun idle takes unended i so_far same-notes false e =
      record {
        before = b;
        since = since ++ (Confirm any ∷ []);
        begun = ap (λ (l : List Call). l ++ (Confirm any ∷ [])) is-begun ∙ append_assoc b (BeginWrite v z ∷ since) (Confirm any ∷ []);
        idle = idle;
        takes = takes;
        unended = none_yet since (Confirm any) unended refl;
        in_hand_law = ap (λ (n : ℕ). Writing v n (bits v z)) (sym (one_more_lem since any));
        so_far = rw (one_more_lem since any) (underway-more sound t (ok o) (rules o) (power_on power) (world_after o b) k m f y es v (confirmations since) (bits v z) i so_far);
        same-events = same-notes;
      }

  trail_confirm : (done : List Call) (w : World) (any : ℕ) → Holds w → Trail done w → Trail (done ++ (Confirm any ∷ [])) (step sound t (Confirm any) w)
  trail_confirm done w any i trail v z e =
      let asked = still-asked (step sound t (Confirm any) w).answer w.asked v z e in
      let b = trail v z asked in
      let n = confirmations b.since in
      let s = w.state in
      let j : Inv t (rules o) (power_on power) s.kept s.marks (Writing v n (bits v z)) w.cells i.0 w.events
      = subst (λ (op : Operation). Inv t (rules o) (power_on power) s.kept s.marks op w.cells i.0 w.events) b.in_hand_law i.1 in
      let link : w.asked ≡ ToWrite v i.0 = subst (λ (op : Operation). Linked w.asked op i.0) b.in_hand_law i.2 in
      let j : Inv t (rules o) (power_on power) s.kept s.marks (Writing v n (bits v z)) w.cells z w.events
      = subst (λ (y : ℤ). Inv t (rules o) (power_on power) s.kept s.marks (Writing v n (bits v z)) w.cells y w.events) (ap value_asked (sym link ∙ asked)) j in
      let there : step sound t (Confirm any) w
      ≡ moved (world t s.kept s.marks (Writing v n (bits v z)) w.cells (ToWrite v z) w.events w.answer)
      (write_on (is_last t writing v (suc n)) t (kept_on sound t (ok o) (rules o) (power_on power) s.kept s.marks v n (bits v z)) v (suc n) (bits v z))
      (put w.cells (register_taken t writing v n) (byte_at t (rules o) (power_on power) s.kept v (bits v z) n))
      = ap (step sound t (Confirm any)) (written_out w v z n i b.in_hand_law asked)
      ∙ write_moves sound t (ok o) (rules o) (power_on power) s.kept s.marks w.cells z w.events v n (bits v z) any w.answer j in
      subst (λ (x : World). Begun (done ++ (Confirm any ∷ [])) x v z) (sym there)
      (confirm_trail done s.kept s.marks w.cells w.events z v z any w.answer b.before b.since b.begun b.idle b.takes b.unended j b.so_far
      b.same-events (is_last t writing v (suc n)) (sym (ap (λ (x : World). x.asked) there) ∙ e))

  -- an end leaves no write in hand
  ended : (asked : Asked) (s : State) (op : Operation) (z : ℤ) → Linked asked op z → closed (abandoned s op).answer asked ≡ Nothing
  ended asked s Idle z link = link
  ended asked s (Reading v n g) z link = refl
  ended asked s (Writing v n x) z link = refl

  pub at_rest : (w : World) (performed : Bool) → Holds w → (step sound t (Abandon performed) w).asked ≡ Nothing
  at_rest w performed i =
      let s = w.state in
      ap (λ (q : Outcome). closed q.answer w.asked)
      (checked-alone sound t (ok o) (rules o) (power_on power) s (abandoned s s.operation) i.1.engine.long i.1.allowed)
      ∙ ended w.asked s s.operation i.0 i.2

  trail_abandon : (done : List Call) (w : World) (performed : Bool) → Holds w → Trail (done ++ (Abandon performed ∷ [])) (step sound t (Abandon performed) w)
  trail_abandon done w performed i v z e = absurd (subst IsToWrite (sym (sym (at_rest w performed i) ∙ e)) tt)

  trail_step : (done : List Call) (w : World) (call : Call) → w ≡ world_after o done → Holds w → Trail done w → Trail (done ++ (call ∷ [])) (step sound t call w)
  trail_step done w (BeginRead u) here i trail = trail_begin_read done w u trail
  trail_step done w (BeginWrite u y) here i trail = trail_begin_write done w u y here i trail
  trail_step done w (Confirm any) here i trail = trail_confirm done w any i trail
  trail_step done w (Abandon performed) here i trail = trail_abandon done w performed i
  trail_step done w (Reopen numbers) here i trail = trail_reopen done w numbers trail

  worlds_append : (first second : List Call) → world_after o (first ++ second) ≡ after sound t second (world_after o first)
  worlds_append first second = after-append sound t (ok o) (rules o) (power_on power) first second (opened sound t power o.lent)

  trail_on : (calls done : List Call) → Trail done (world_after o done) → Trail (done ++ calls) (world_after o (done ++ calls))
  unfolding after
  trail_on [] done trail = rw (append-nil done) trail
  trail_on (call ∷ calls) done trail =
      subst (λ (l : List Call). Trail l (world_after o l)) (append_assoc done (call ∷ []) calls)
      (trail_on calls (done ++ (call ∷ []))
      (rw (worlds_append done (call ∷ [])) (trail_step done (world_after o done) call refl (world-holds o done) trail)))

  pub trail_of : (calls : List Call) → Trail calls (world_after o calls)
  unfolding after
  trail_of calls = trail_on calls [] (λ v z e. absurd (subst IsToWrite (sym e) tt))

  -- ── what it has set ──

  write-holds : (calls : List Call) (v : ℕ) (z : ℤ) → (world_after o calls).asked ≡ ToWrite v z → (b : Begun calls (world_after o calls) v z)
      → Inv t (rules o) (power_on power) (world_after o calls).state.kept (world_after o calls).state.marks (Writing v (confirmations b.since) (bits v z))
      (world_after o calls).cells (world-holds o calls).0 (world_after o calls).events
  write-holds calls v z asked b =
      let w = world_after o calls in
      subst (λ (op : Operation). Inv t (rules o) (power_on power) w.state.kept w.state.marks op w.cells (world-holds o calls).0 w.events) b.in_hand_law
      (world-holds o calls).1

  left-set : (calls : List Call) (v : ℕ) (z : ℤ) → (world_after o calls).asked ≡ ToWrite v z → (b : Begun calls (world_after o calls) v z) → (performed : Bool) (r : ℕ)
      → left_by t performed (world_after o calls) r
      ≡ wrote_over t (kept_of (world_after o b.before).state) v (bits v z) (set_so_far t v (confirmations b.since) performed) (world_after o b.before).cells r
  left-set calls v z asked b performed r =
      let w = world_after o calls in
      let n = confirmations b.since in
      ap (λ (x : World). left_by t performed x r) (written_out w v z n (world-holds o calls) b.in_hand_law asked)
      ∙ part_left sound t (ok o) (rules o) (power_on power) w.state.kept w.state.marks w.cells (world-holds o calls).0 w.events (world_after o b.before) v n
      (bits v z) w.answer (write-holds calls v z asked b) b.so_far performed r

  is-under_way : (calls : List Call) (v : ℕ) (z : ℤ) → (world_after o calls).asked ≡ ToWrite v z → UnderWay o calls v z
  is-under_way calls v z asked =
      let b = trail_of calls v z asked in
      record {
        before = b.before;
        since = b.since;
        begun = b.begun;
        idle = b.idle;
        takes = b.takes;
        unended = b.unended;
        left = (writing-allowed t v (confirmations b.since) (bits v z) (write-holds calls v z asked b).allowed).2;
        half-set = left-set calls v z asked b;
      }

  -- ── what it leaves ──

  -- registers written over have the new share, the others the old
  over_share : (f held kept : Cells) (v old x r : ℕ) (registers : List ℕ) → v < variable_count t → f r ≡ wrote_over t kept v x registers held r → ShareIs t held v r old
      → OneOf t f v r old x
  over_share f held kept v old x r registers hv is was = go (is_among r registers) is
    where
      go : (b : Bool) → f r ≡ cond b (written_byte t kept v x r) (held r) → OneOf t f v r old x
      go true e =
          inr (λ j hj at-r.
          ap (bit (spot_of t writing v j)) (e ∙ ap (written_byte t kept v x) (sym at-r)) ∙ byte-own t (rules o) kept v x j hv hj)
      go false e = inl (λ j hj at-r. ap (bit (spot_of t writing v j)) e ∙ was j hj at-r)

  abandoned-whole : (calls : List Call) (v : ℕ) (z : ℤ) → (world_after o calls).asked ≡ ToWrite v z → is_half (world_after o calls).events v ≡ false → (performed : Bool) (r : ℕ)
      → Whole t (ok o) (rules o) (power_on power) (step sound t (Abandon performed) (world_after o calls)) v r (last_given t (power_on power) (world_after o calls).events v) (bits v z)
  abandoned-whole calls v z asked whole performed r =
      record {
        in_record = over_share (kept_of (step sound t (Abandon performed) w).state) (kept_of was.state) (kept_of was.state) v _ (bits v z) r
            (take (confirmations b.since) (registers_of t writing v)) hv
            (ap (λ (k : List ℕ). at k r) (abandon-kept t (ok o) (rules o) (power_on power) w performed (world-holds o calls)) ∙ b.so_far.in_record r)
            (λ j hj at-r. ap (λ (q : ℕ). bit (spot_of t writing v j) (at was.state.kept q)) (sym at-r)
            ∙ settled-kept t (ok o) (rules o) (power_on power) was v j (world-holds o b.before) hv settled hj ∙ given j);
        in_cell = over_share (left_by t performed w) was.cells (kept_of was.state) v _ (bits v z) r (set_so_far t v (confirmations b.since) performed) hv
            (left-set calls v z asked b performed r)
            (λ j hj at-r. ap (λ (q : ℕ). bit (spot_of t writing v j) (was.cells q)) (sym at-r)
            ∙ settled-bit t (ok o) (rules o) (power_on power) was v j (world-holds o b.before) hv settled hj ∙ given j);
      }
    where
      w : World
      w = world_after o calls

      b : Begun calls w v z
      b = trail_of calls v z asked

      was : World
      was = world_after o b.before

      hv : v < variable_count t
      hv = b.takes.exists

      settled : Settled was v
      settled =
          record {
            whole = ap (λ (es : List Event). is_half es v) (sym b.same-events) ∙ whole;
            at_rest = ap (λ (q : Asked). is_being_written q v) b.idle;
          }

      given : (j : ℕ) → bit j (last_given t (power_on power) was.events v) ≡ bit j (last_given t (power_on power) w.events v)
      given j = ap (λ (es : List Event). bit j (last_given t (power_on power) es v)) (sym b.same-events)

  pub middle : Middle t power o
  unfolding after
  middle =
      record {
        under_way = is-under_way;
        old-or-new = λ calls v z asked whole performed later none r.
            let w = world_after o calls in
            let b = trail_of calls v z asked in
            (after-whole t (ok o) (rules o) (power_on power) later (step sound t (Abandon performed) w) v r _ _
            (step_keeps sound t (ok o) (rules o) (power_on power) (Abandon performed) w (world-holds o calls)) b.takes.exists
            (ap (λ (q : Asked). is_being_written q v) (at_rest w performed (world-holds o calls))) none (abandoned-whole calls v z asked whole performed r)).in_cell;
      }
