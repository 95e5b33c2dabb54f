-- The turns of a loop, once for all of them.
-- Assumes nothing.
use Prim.Native.Nat.{ℕ, zero, suc, ◌+◌, ◌-◌, ◌≤◌, ◌<◌}
use native.Mathlib.Omega.{arith}
use mathlib.Core.Path.{◌≡◌, refl, sym, ap, ◌∙◌, subst}
use mathlib.Core.Bool.{Bool, true, false}
use mathlib.Core.List.{List}
use lib.Dec.{eqb}
use borrow.Author.Tests.{eq-eqb, ne_eqb}
use Rattle.syntax.specs.Step.{Step}
use Rattle.syntax.specs.declared.reader.Seen.{Seen}
use Rattle.syntax.specs.Reader.{seen_at}
use Rattle.syntax.specs.Loop.{loop_with}

module _ {P : Type 0} (text : List ℕ) (step : P → Step) (tells : ℕ → Bool) (turn : P → P) where
  pub loop-end : (room : ℕ) (p : P) → tells (seen_at text (step p)).kind ≡ false → loop_with text step tells turn room p ≡ p
  unfolding loop_with
  loop-end zero p e = refl
  loop-end (suc room) p e = rw (loop_with, e)

  pub loop-full : (room : ℕ) (p : P) → room ≡ 0 → loop_with text step tells turn room p ≡ p
  unfolding loop_with
  loop-full room p z = rw z

  pub loop-on : (room : ℕ) (p : P) → tells (seen_at text (step p)).kind ≡ true → loop_with text step tells turn (suc room) p ≡ loop_with text step tells turn room (turn p)
  unfolding loop_with
  loop-on room p e = rw (loop_with, e)

  -- the same, over what the calls of a turn answered
  module _ (p : P) (seen : Seen) (s : seen ≡ seen_at text (step p)) (room : ℕ) where
    pub turn_end : tells seen.kind ≡ false → loop_with text step tells turn room p ≡ p
    turn_end e = loop-end room p (ap (λ (y : Seen). tells y.kind) (sym s) ∙ e)

    pub turn_on : (left : ℕ) (q : P) → room ≡ suc left → tells seen.kind ≡ true → q ≡ turn p → loop_with text step tells turn room p ≡ loop_with text step tells turn left q
    turn_on left q z e t =
        ap (λ (n : ℕ). loop_with text step tells turn n p) z ∙ loop-on left p (ap (λ (y : Seen). tells y.kind) (sym s) ∙ e) ∙ ap (loop_with text step tells turn left) (sym t)

-- a loop of `size` turns at most, behind `turns` of them; `whole` is what it comes to
module _ {P : Type 0} (text : List ℕ) (step : P → Step) (tells : ℕ → Bool) (turn : P → P) (size turns : ℕ) (p : P) {whole : P} (is : whole ≡ loop_with text step tells turn (size - turns) p) where
  pub loop-over : size ≤ turns → p ≡ whole
  loop-over z = sym (is ∙ loop-full text step tells turn (size - turns) p (omega arith))

  pub loop-done : {seen : Seen} → seen ≡ seen_at text (step p) → tells seen.kind ≡ false → p ≡ whole
  loop-done {seen} s e = sym (is ∙ turn_end text step tells turn p seen s (size - turns) e)

  pub loop-again : {seen : Seen} {q : P} → seen ≡ seen_at text (step p) → turns < size → tells seen.kind ≡ true → q ≡ turn p → whole ≡ loop_with text step tells turn (size - (turns + 1)) q
  loop-again {seen} {q} s z e t = is ∙ turn_on text step tells turn p seen s (size - turns) (size - (turns + 1)) q (omega arith) e t

-- one whose turns a sign tells
module _ {P : Type 0} (text : List ℕ) (step : P → Step) (kind : ℕ) (turn : P → P) (size turns : ℕ) (p : P) {whole : P} (is : whole ≡ loop_with text step (λ k. eqb k kind) turn (size - turns) p) where
  pub sign-full : size ≤ turns → p ≡ whole
  sign-full = loop-over text step (λ k. eqb k kind) turn size turns p is

  pub sign-end : {seen : Seen} → seen ≡ seen_at text (step p) → (seen.kind ≡ kind → ⊥) → p ≡ whole
  sign-end s e = loop-done text step (λ k. eqb k kind) turn size turns p is s (ne_eqb _ _ e)

  pub sign-on : {seen : Seen} {q : P} → seen ≡ seen_at text (step p) → turns < size → seen.kind ≡ kind → q ≡ turn p → whole ≡ loop_with text step (λ k. eqb k kind) turn (size - (turns + 1)) q
  sign-on s z e t = loop-again text step (λ k. eqb k kind) turn size turns p is s z (eq-eqb _ _ e) t

-- what every turn keeps, a loop keeps
pub loop-keeps : {P : Type 0} (text : List ℕ) (step : P → Step) (tells : ℕ → Bool) (turn : P → P) (I : P → Type 0)
    → ((p : P) → tells (seen_at text (step p)).kind ≡ true → I p → I (turn p)) → (room : ℕ) (p : P) → I p → I (loop_with text step tells turn room p)
unfolding loop_with
loop-keeps text step tells turn I keeps zero p i = i
loop-keeps text step tells turn I keeps (suc room) p i = by (tells (seen_at text (step p)).kind) refl (loop-keeps text step tells turn I keeps room (turn p))
  where
    by : (b : Bool) → tells (seen_at text (step p)).kind ≡ b → (I (turn p) → I (loop_with text step tells turn room (turn p))) → I (loop_with text step tells turn (suc room) p)
    by true e rest = subst I (sym (loop-on text step tells turn room p e)) (rest (keeps p e i))
    by false e rest = subst I (sym (loop-end text step tells turn (suc room) p e)) i

-- Along a text: what holds at a place once it holds at every place behind, as far as the text goes, holds at every
-- place.
along-from : {A : Type 0} (size : ℕ) (Holds : A → ℕ → Type 0) → ((x : A) (at : ℕ) → ((y : A) (end : ℕ) → at < end → at < size → Holds y end) → Holds x at)
    → (bound : ℕ) (x : A) (at : ℕ) → size < at + bound → Holds x at
along-from size Holds turn zero x at h = turn x at (λ y end ahead inside. absurd (omega arith))
along-from size Holds turn (suc bound) x at h = turn x at (λ y end ahead inside. along-from size Holds turn bound y end (omega arith))

pub along : {A : Type 0} (size : ℕ) (Holds : A → ℕ → Type 0) → ((x : A) (at : ℕ) → ((y : A) (end : ℕ) → at < end → at < size → Holds y end) → Holds x at)
    → (x : A) (at : ℕ) → Holds x at
along size Holds turn x at = along-from size Holds turn (suc size) x at (omega arith)
