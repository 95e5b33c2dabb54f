-- What every variable is that was read, however its text goes on: one to eight pieces in each bit list, and one of the
-- three kinds. Assumes nothing.
use Prim.Native.Nat.{ℕ, ◌≤◌, ◌<◌}
use native.Mathlib.Omega.{arith}
use mathlib.Core.Path.{◌≡◌, refl}
use mathlib.Core.Bool.{Bool, true, false}
use mathlib.Core.Logic.{◌⊎◌, inl, inr}
use mathlib.Core.List.{List}
use lib.Dec.{eqb, leb}
use lib.ListN.{length}
use borrow.Author.Tests.{leb-true, leb-false}
use Rattle.syntax.specs.Step.{Step}
use Rattle.syntax.specs.declared.reader.Named.{Named}
use Rattle.syntax.specs.declared.variable.Tail.{Tail}
use Rattle.syntax.specs.declared.variable.Variable.{Variable}
use Rattle.syntax.specs.Reader.{seen_at, name_after}
use Rattle.syntax.proofs.LoopSteps.{loop-keeps}
use Rattle.syntax.specs.Attribute.{int_after, type_after}
use Rattle.syntax.specs.Items.{Filed, unless_full, closed_by, item_turn, more_items, items_after}
use Rattle.syntax.specs.Piece.{range_piece, bracket_after, named_piece, piece_after, pieces_after}
use Rattle.syntax.specs.Variable.{second_marked, second_after, rest_after, variable_after}

-- one to eight pieces
abbrev Some : Filed → Type 0
Some f = (1 ≤ f.listed.value) × (f.listed.value ≤ 8)

-- a second list, if there is one, has a piece
abbrev Second : Tail → Type 0
Second t = ((t.mark ≡ 0) ⊎ (1 ≤ t.count)) × (t.count ≤ 8)

module _ (text : List ℕ) where
  -- one more, or one too many
  unless-some : (kind count : ℕ) (table : List ℕ) (s : Step) (more : Filed) → count ≤ 8 → (count < 8 → Some more) → Some (unless_full text 8 kind count table s more)
  unfolding unless_full
  unless-some kind count table s more h rest = by (leb 8 count) refl
    where
      by : (b : Bool) → leb 8 count ≡ b → Some (unless_full text 8 kind count table s more)
      by true e = rw e (omega (arith, leb-true 8 count e), h)
      by false e = rw e (rest (leb-false 8 count e))

  -- item (sign item)*
  items-some : (item : ℕ → List ℕ → Step → Filed) (kind : ℕ) → ((count : ℕ) (table : List ℕ) (s : Step) → count ≤ 8 → Some (item count table s))
      → (count : ℕ) (table : List ℕ) (s : Step) → count ≤ 8 → Some (items_after text item kind count table s)
  unfolding items_after more_items item_turn
  items-some item kind one count table s h =
      loop-keeps text (λ f. f.listed.step) (λ k. eqb k kind) (item_turn text item kind) Some
      (λ f e i. one f.listed.value f.table (seen_at text f.listed.step).past i.1) (length text) (item count table s) (one count table s h)

  range-some : (place extent count : ℕ) (table : List ℕ) (s : Step) → count ≤ 8 → Some (range_piece text place extent count table s)
  unfolding range_piece
  range-some place extent count table s h = unless-some 2 count table s _ h (λ l. (omega arith, omega arith))

  bracket-some : (place extent count : ℕ) (table : List ℕ) (s : Step) → count ≤ 8 → Some (bracket_after text place extent count table s)
  unfolding bracket_after closed_by
  bracket-some place extent count table s h = items-some (range_piece text place extent) 300 (range-some place extent) count table s h

  named_some : (count : ℕ) (table : List ℕ) (name : Named) → count < 8 → Some (named_piece text count table name)
  unfolding named_piece
  named_some count table name h = by (eqb (seen_at text name.step).kind 347) refl
    where
      by : (d : Bool) → eqb (seen_at text name.step).kind 347 ≡ d → Some (named_piece text count table name)
      by true g = rw g (bracket-some _ _ count table _ (omega arith))
      by false g = rw g (omega arith, omega arith)

  piece-some : (count : ℕ) (table : List ℕ) (s : Step) → count ≤ 8 → Some (piece_after text count table s)
  unfolding piece_after
  piece-some count table s h = unless-some 1 count table s _ h (named_some count table (name_after text s))

  pieces-some : (table : List ℕ) (s : Step) → Some (pieces_after text table s)
  unfolding pieces_after
  pieces-some table s = items-some (piece_after text) 291 piece-some 0 table s (omega arith)

  marked-second : (mark : ℕ) (table : List ℕ) (s : Step) → Second (second_marked text mark table s).tail
  unfolding second_marked
  marked-second mark table s = by (eqb (seen_at text s).kind 533) refl
    where
      by : (b : Bool) → eqb (seen_at text s).kind 533 ≡ b → Second (second_marked text mark table s).tail
      by true e = rw e (inl refl, omega arith)
      by false e = let all = pieces-some table s in rw e (inr all.0, all.1)

  after-second : (table : List ℕ) (s : Step) → Second (second_after text table s).tail
  unfolding second_after
  after-second table s = by (eqb (seen_at text s).kind 538) refl
    where
      by : (b : Bool) → eqb (seen_at text s).kind 538 ≡ b → Second (second_after text table s).tail
      by true e = rw e (inl refl, omega arith)
      by false e = rw e (marked-second _ table _)

  rest-second : (table : List ℕ) (s : Step) → Second (rest_after text table s).tail
  unfolding rest_after
  rest-second table s = by (eqb (seen_at text s).kind 300) refl
    where
      by : (b : Bool) → eqb (seen_at text s).kind 300 ≡ b → Second (rest_after text table s).tail
      by true e = rw e (after-second table _)
      by false e = rw e (inl refl, omega arith)

  type-kind : (s : Step) → leb (type_after text s).value.kind 2 ≡ true
  unfolding type_after int_after
  type-kind s = by (eqb (seen_at text s).kind 514) (eqb (seen_at text s).kind 540) refl refl
    where
      by : (a b : Bool) → eqb (seen_at text s).kind 514 ≡ a → eqb (seen_at text s).kind 540 ≡ b → leb (type_after text s).value.kind 2 ≡ true
      by true b e g = rw e
      by false true e g = rw (e, g)
      by false false e g = rw (e, g)

-- a variable as it comes out of its text
pub record WellRead (d : Variable) : Type 0 where
  pub kind : leb d.kind 2 ≡ true
  pub some : 1 ≤ d.count
  pub few : d.count ≤ 8
  pub second : (d.rest.mark ≡ 0) ⊎ (1 ≤ d.rest.count)
  pub second-few : d.rest.count ≤ 8

pub well-read : (text first second : List ℕ) (s : Step) → WellRead (variable_after text first second s).variable
unfolding variable_after
well-read text first second s =
    let listed = pieces-some text first _ in
    let rest = rest-second text second _ in
    record { kind = type-kind text _; some = listed.0; few = listed.1; second = rest.0; second-few = rest.1 }
