-- Done is said of what was asked, with its value and the number of its registers, and leaves the station idle.
-- Assumes nothing.
use Prim.Native.Nat.{ℕ, suc}
use mathlib.Core.Path.{◌≡◌, refl, sym, ap, ◌∙◌, subst}
use mathlib.Core.Bool.{Bool, true, false, cond}
use mathlib.Core.List.{List}
use lib.IntN.{ℤ}
use borrow.Author.Tests.{eqb-true}
use Rattle.bits.specs.Values.{decode}
use Rattle.bits.proofs.ValueLaws.{decode-encode}
use Rattle.tables.specs.declared.Part.TheVariants.{Read as reading, Write as writing}
use Rattle.tables.specs.View.{Tables, sound, Consistent, kind_of, size, obeys}
use Rattle.station.specs.declared.Operation.{Operation}
use Rattle.station.specs.declared.Operation.TheVariants.{Idle, Reading, Writing}
use Rattle.station.specs.declared.Answer.{Answer}
use Rattle.station.specs.declared.Answer.TheVariants.{Refused, Stopped, Opened, Offer as Offered, Done, Abandoned as Ended}
use Rattle.station.specs.Calls.{State, Outcome, opening_tests, read_tests, write_tests, abandoned, confirmed, contradicted, read_on, write_on, is_last, gather, keeping, write_access, register_taken}
use Rattle.station.proofs.Refusals.{unless-cases}
use Rattle.board.specs.Board.{Cells, Event, Asked, ToRead, ToWrite, World, Call, BeginRead, BeginWrite, Confirm, Abandon, Reopen, begun, unless_opened, brought, closed, step}
use Rattle.board.specs.Demand.{Opening, power_on, world_after}
use Rattle.board.specs.Done.{DoneRight, DoneWith, SaysDone}
use Rattle.board.proofs.Invariant.{Inv}
use Rattle.board.proofs.Steps.{Linked, InvW, state_of, checked-alone}
use Rattle.board.proofs.ReadBack.{IsDone, value_of}
use Rattle.board.proofs.World.{ok, rules, world-holds}

abbrev count_of : Answer → ℕ
count_of (Refused n) = 0
count_of (Stopped n r) = 0
count_of Opened = 0
count_of (Offered a) = 0
count_of (Done y n) = n
count_of Ended = 0

module _ (t : Tables) (is-sound : sound t ≡ true) (c : Consistent t) (power : Cells) where
  -- an outcome that says done is right, and leaves the station idle
  abbrev Right : Asked → Outcome → Type 0
  Right asked o = (y : ℤ) (n : ℕ) → o.answer ≡ Done y n → DoneRight t asked y n × (o.state.operation ≡ Idle)

  read_right : (s : State) (v at g : ℕ) (last : Bool) → is_last t reading v (suc at) ≡ last → Right (ToRead v) (read_on last t s v (suc at) g)
  read_right s v at g true e y n done = (sym (ap count_of done) ∙ eqb-true _ _ e, refl)
  read_right s v at g false e y n done = absurd (subst IsDone (sym done) tt)

  or-stops : (s : State) (asked : Asked) (obeyed : Bool) (o : Outcome) (r : ℕ) → Right asked o → Right asked (cond obeyed o (contradicted r s))
  or-stops s asked true o r right y n done = right y n done
  or-stops s asked false o r right y n done = absurd (subst IsDone (sym done) tt)

  write-right : (k m : List ℕ) (f : Cells) (es : List Event) (s : State) (v at x : ℕ) (z : ℤ) (last : Bool) → Inv t c power k m (Writing v at x) f z es
      → is_last t writing v (suc at) ≡ last → Right (ToWrite v z) (write_on last t s v (suc at) x)
  write-right k m f es s v at x z true i e y n done =
      let given = ap (decode (kind_of t v) (size t writing v)) i.hand
      ∙ decode-encode (kind_of t v) (size t writing v) z i.engine.underway.0.fits in
      ((sym (ap value_of done) ∙ given, sym (ap count_of done) ∙ eqb-true _ _ e), refl)
  write-right k m f es s v at x z false i e y n done = absurd (subst IsDone (sym done) tt)

  confirm-right : (k m : List ℕ) (op : Operation) (f : Cells) (asked : Asked) (es : List Event) (z : ℤ) (byte : ℕ) → Inv t c power k m op f z es → Linked asked op z
      → Right asked (confirmed t (state_of sound t is-sound c power k m op) op byte)
  confirm-right k m Idle f asked es z byte i link = λ y n done. absurd (subst IsDone (sym done) tt)
  confirm-right k m (Reading v at g) f asked es z byte i link =
      let s = state_of sound t is-sound c power k m (Reading v at g) in
      let r = register_taken t reading v at in
      subst (λ (q : Asked). Right q (confirmed t s (Reading v at g) byte)) (sym link)
      (or-stops s (ToRead v) (obeys t reading r byte) _ r (read_right s v at (gather t v g r byte) (is_last t reading v (suc at)) refl))
  confirm-right k m (Writing v at x) f asked es z byte i link =
      let s = state_of sound t is-sound c power k m (Writing v at x) in
      subst (λ (q : Asked). Right q (confirmed t s (Writing v at x) byte)) (sym link)
      (write-right k m f es (keeping s (register_taken t writing v at) (write_access t s v at x).byte) v at x z (is_last t writing v (suc at)) i refl)

  abandon-right : (asked : Asked) (s : State) (op : Operation) → Right asked (abandoned s op)
  abandon-right asked s Idle = λ y n done. absurd (subst IsDone (sym done) tt)
  abandon-right asked s (Reading v at g) = λ y n done. absurd (subst IsDone (sym done) tt)
  abandon-right asked s (Writing v at x) = λ y n done. absurd (subst IsDone (sym done) tt)

  -- ── any call ──

  opening-right : (w : World) (numbers : List ℕ) (y : ℤ) (n : ℕ) → (step sound t (Reopen numbers) w).answer ≡ Done y n → ⊥
  opening-right w numbers y n =
      unless-cases (λ (o : Outcome). (unless_opened o.answer w (begun w o w.asked)).answer ≡ Done y n → ⊥) (opening_tests sound t numbers w.state) w.state _
      (λ k e. subst IsDone (sym e) tt) (λ passed e. subst IsDone (sym e) tt)

  pub done-right : (call : Call) (w : World) → InvW sound t is-sound c power w → (y : ℤ) (n : ℕ) → (step sound t call w).answer ≡ Done y n
      → DoneWith t w (step sound t call w) y n
  done-right (BeginRead v) w i y n done =
      absurd (unless-cases (λ (o : Outcome). o.answer ≡ Done y n → ⊥) (read_tests sound t w.state v) w.state _
      (λ k e. subst IsDone (sym e) tt) (λ passed e. subst IsDone (sym e) tt) done)
  done-right (BeginWrite v z) w i y n done =
      absurd (unless-cases (λ (o : Outcome). o.answer ≡ Done y n → ⊥) (write_tests sound t w.state v z) w.state _
      (λ k e. subst IsDone (sym e) tt) (λ passed e. subst IsDone (sym e) tt) done)
  done-right (Confirm any) w i y n done =
      let s = w.state in
      let byte = brought t w.offer w.cells any in
      let passes = checked-alone sound t is-sound c power s (confirmed t s s.operation byte) i.1.engine.long i.1.allowed in
      let right = confirm-right s.kept s.marks s.operation w.cells w.asked w.events i.0 byte i.1 i.2 y n
      (sym (ap (λ (o : Outcome). o.answer) passes) ∙ done) in
      record {
        right = right.0;
        idle = ap (λ (o : Outcome). o.state.operation) passes ∙ right.1;
        at_rest = ap (λ (a : Answer). closed a w.asked) done;
      }
  done-right (Abandon performed) w i y n done =
      let s = w.state in
      let passes = checked-alone sound t is-sound c power s (abandoned s s.operation) i.1.engine.long i.1.allowed in
      let right = abandon-right w.asked s s.operation y n (sym (ap (λ (o : Outcome). o.answer) passes) ∙ done) in
      record {
        right = right.0;
        idle = ap (λ (o : Outcome). o.state.operation) passes ∙ right.1;
        at_rest = ap (λ (a : Answer). closed a w.asked) done;
      }
  done-right (Reopen numbers) w i y n done = absurd (opening-right w numbers y n done)

pub says-done : {t : Tables} {power : List ℕ} (o : Opening t power) → SaysDone t power o
says-done {t} {power} o =
    record { done = λ calls call. done-right t (ok o) (rules o) (power_on power) call (world_after o calls) (world-holds o calls) }
