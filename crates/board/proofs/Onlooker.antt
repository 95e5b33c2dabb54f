-- What the onlooker's notes say of a variable that is settled, by the notes alone: it stays so until a write of its own
-- begins. Assumes nothing.
use Prim.Native.Nat.{ℕ}
use mathlib.Core.Path.{◌≡◌, refl, sym, ◌∙◌, subst}
use mathlib.Core.Bool.{Bool, true, false, cond, not}
use mathlib.Core.List.{List, [], ◌∷◌}
use lib.Dec.{eqb}
use lib.IntN.{ℤ}
use Rattle.tables.specs.View.{Tables}
use Rattle.station.specs.declared.Answer.{Answer}
use Rattle.station.specs.declared.Answer.TheVariants.{Refused, Stopped, Opened, Offer as Offered, Done, Abandoned as Ended}
use borrow.Author.Tests.{not-true}
use Rattle.board.specs.Board.{Cells, Event, Finished, Abandoned, Due, Gives, HalfWritten, must_read, Asked, Nothing, ToRead, ToWrite, taken_on, closed, noted, World, Call, BeginRead, BeginWrite, Confirm, Abandon, Reopen, step, after}
use Rattle.board.specs.Stops.{last_given, is_half, is_being_written, Settled, begins, none_begins}
use Rattle.board.proofs.Reopens.{reopen-stays}
use Rattle.logic.proofs.Tests.{both}

abbrev IsHalf : Due → Type 0
IsHalf (Gives z) = ⊥
IsHalf HalfWritten = Unit {0}

pub gives≢half : {z : ℤ} → Gives z ≡ HalfWritten → ⊥
gives≢half e = subst IsHalf (sym e) tt

module _ (t : Tables) (power : Cells) where
  -- what must be read is half-written only where the last write was abandoned
  pub half_is : (es : List Event) (v : ℕ) → must_read t power es v ≡ HalfWritten → is_half es v ≡ true
  unfolding must_read is_half
  half_is [] v e = absurd (gives≢half e)
  half_is (Finished u z ∷ es) v e = go (eqb v u) e (half_is es v)
    where
      go : (b : Bool) → cond b (Gives z) (must_read t power es v) ≡ HalfWritten → (must_read t power es v ≡ HalfWritten → is_half es v ≡ true)
          → cond b false (is_half es v) ≡ true
      go true e rest = absurd (gives≢half e)
      go false e rest = rest e
  half_is (Abandoned u ∷ es) v e = go (eqb v u) e (half_is es v)
    where
      go : (b : Bool) → cond b HalfWritten (must_read t power es v) ≡ HalfWritten → (must_read t power es v ≡ HalfWritten → is_half es v ≡ true)
          → cond b true (is_half es v) ≡ true
      go true e rest = refl
      go false e rest = rest e

  -- the notes of v are the same
  pub record SameNotes (v : ℕ) (now before : List Event) : Type 0 where
    pub half : is_half now v ≡ is_half before v
    pub given : last_given t power now v ≡ last_given t power before v
    pub due : must_read t power now v ≡ must_read t power before v

  same : (v : ℕ) (es : List Event) → SameNotes v es es
  same v es = record { half = refl; given = refl; due = refl }

  other-finished : (v u : ℕ) (z : ℤ) (es : List Event) → eqb v u ≡ false → SameNotes v (Finished u z ∷ es) es
  unfolding is_half last_given must_read
  other-finished v u z es apart = record { half = rw apart; given = rw apart; due = rw apart }

  other-abandoned : (v u : ℕ) (es : List Event) → eqb v u ≡ false → SameNotes v (Abandoned u ∷ es) es
  unfolding is_half last_given must_read
  other-abandoned v u es apart = record { half = rw apart; given = refl; due = rw apart }

  -- an answer to a confirmation or an end notes nothing of v, where v is not being written
  noted-same : (a : Answer) (asked : Asked) (es : List Event) (v : ℕ) → is_being_written asked v ≡ false → SameNotes v (noted a asked es) es
  noted-same (Refused n) asked es v rest = same v es
  noted-same (Stopped n r) Nothing es v rest = same v es
  noted-same (Stopped n r) (ToRead u) es v rest = same v es
  noted-same (Stopped n r) (ToWrite u z) es v rest = other-abandoned v u es rest
  noted-same Opened asked es v rest = same v es
  noted-same (Offered a) asked es v rest = same v es
  noted-same (Done y n) Nothing es v rest = same v es
  noted-same (Done y n) (ToRead u) es v rest = same v es
  noted-same (Done y n) (ToWrite u z) es v rest = other-finished v u z es rest
  noted-same Ended Nothing es v rest = same v es
  noted-same Ended (ToRead u) es v rest = same v es
  noted-same Ended (ToWrite u z) es v rest = other-abandoned v u es rest

pub closed-rests : (a : Answer) (asked : Asked) (v : ℕ) → is_being_written asked v ≡ false → is_being_written (closed a asked) v ≡ false
closed-rests (Refused n) asked v rest = rest
closed-rests (Stopped n r) asked v rest = refl
closed-rests Opened asked v rest = rest
closed-rests (Offered a) asked v rest = rest
closed-rests (Done y n) asked v rest = refl
closed-rests Ended asked v rest = refl

pub taken-rests : (a : Answer) (asked new : Asked) (v : ℕ) → is_being_written asked v ≡ false → is_being_written new v ≡ false → is_being_written (taken_on a asked new) v ≡ false
taken-rests (Refused n) asked new v old-rests new-rests = old-rests
taken-rests (Stopped n r) asked new v old-rests new-rests = old-rests
taken-rests Opened asked new v old-rests new-rests = old-rests
taken-rests (Offered a) asked new v old-rests new-rests = new-rests
taken-rests (Done y n) asked new v old-rests new-rests = old-rests
taken-rests Ended asked new v old-rests new-rests = old-rests

module _ (sound : Tables → Bool) (t : Tables) (power : Cells) where
  -- v is settled still, and the notes say the same of it
  pub record StillSettled (w u : World) (v : ℕ) : Type 0 where
    pub settled : Settled u v
    pub notes : SameNotes t power v u.events w.events

  pub step-settled : (call : Call) (w : World) (v : ℕ) → Settled w v → begins call v ≡ false → StillSettled w (step sound t call w) v
  step-settled (BeginRead u) w v before other =
      record {
        settled = record { whole = before.whole; at_rest = taken-rests (step sound t (BeginRead u) w).answer w.asked (ToRead u) v before.at_rest refl };
        notes = same t power v w.events;
      }
  step-settled (BeginWrite u z) w v before other =
      record {
        settled = record { whole = before.whole; at_rest = taken-rests (step sound t (BeginWrite u z) w).answer w.asked (ToWrite u z) v before.at_rest other };
        notes = same t power v w.events;
      }
  step-settled (Confirm any) w v before other =
      let notes = noted-same t power (step sound t (Confirm any) w).answer w.asked w.events v before.at_rest in
      record {
        settled = record {
          whole = notes.half ∙ before.whole;
          at_rest = closed-rests (step sound t (Confirm any) w).answer w.asked v before.at_rest;
        };
        notes = notes;
      }
  step-settled (Abandon performed) w v before other =
      let notes = noted-same t power (step sound t (Abandon performed) w).answer w.asked w.events v before.at_rest in
      record {
        settled = record {
          whole = notes.half ∙ before.whole;
          at_rest = closed-rests (step sound t (Abandon performed) w).answer w.asked v before.at_rest;
        };
        notes = notes;
      }
  step-settled (Reopen numbers) w v before other = rw (reopen-stays sound t w numbers) (record {
    settled = record { whole = before.whole; at_rest = before.at_rest };
    notes = same t power v w.events;
  })

  pub after-settled : (calls : List Call) (w : World) (v : ℕ) → Settled w v → none_begins calls v ≡ true → StillSettled w (after sound t calls w) v
  unfolding after none_begins
  after-settled [] w v before none_begins_lem = record { settled = before; notes = same t power v w.events }
  after-settled (call ∷ calls) w v before none_begins_lem =
      let parts = both (not (begins call v)) _ none_begins_lem in
      let one = step-settled call w v before (not-true _ parts.0) in
      let rest = after-settled calls (step sound t call w) v one.settled parts.1 in
      record {
        settled = rest.settled;
        notes = record {
          half = rest.notes.half ∙ one.notes.half;
          given = rest.notes.given ∙ one.notes.given;
          due = rest.notes.due ∙ one.notes.due;
        };
      }
