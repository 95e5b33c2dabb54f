-- The lists that are stored in a table: where an item agrees with the count of sizes, so does the list of them.
-- Assumes nothing.
use Prim.Native.Nat.{ℕ, suc, ◌+◌}
use native.Mathlib.Omega.{arith}
use mathlib.Core.Path.{◌≡◌, refl, subst}
use mathlib.Core.Bool.{Bool, true, false}
use mathlib.Core.List.{List}
use mathlib.Core.Option.{Option}
use lib.Dec.{eqb, leb, ltb}
use lib.ListN.{length}
use borrow.Author.Tests.{leb-true, leb-false, lt-ltb, le-ltb}
use Rattle.syntax.specs.Step.{Step}
use Rattle.syntax.specs.Reader.{seen_at}
use Rattle.syntax.specs.Items.{Filed, unless_full, item_turn, more_items, items_after}
use Rattle.syntax.specs.Sizes.{Tally, too_much}
use Rattle.syntax.proofs.LoopSteps.{loop-keeps}
use Rattle.syntax.proofs.Tally.{Agrees, agrees-extra}

-- `within n` is the count in the n-th item, of which there may be `most`.
module _ (text : List ℕ) (w : Option ℕ) (most : ℕ) (within : ℕ → Tally) where
  -- items as far as they are read: no more than there may be, and as many as the count says
  abbrev pub Counted : Filed → Type 0
  Counted f = (ltb most f.listed.value ≡ false) × Agrees text w (within f.listed.value) f.listed.step

  -- one more has been read
  pub one_more_lem : (count : ℕ) (s : Step) → ltb most (suc count) ≡ false → Agrees text w (within (suc count)) s → (ltb most (count + 1) ≡ false) × Agrees text w (within (count + 1)) s
  one_more_lem count s fits a = subst (λ (n : ℕ). (ltb most n ≡ false) × Agrees text w (within n) s) (let e : suc count ≡ count + 1 = omega arith in e) (fits, a)

  -- one more, or one too many
  pub agrees-unless_full : (kind : ℕ) → eqb 255 kind ≡ false → ((n : ℕ) → ltb most n ≡ true → too_much (within n) kind ≡ true) → (count : ℕ) (table : List ℕ) (s : Step) (more : Filed)
      → ltb most count ≡ false → Agrees text w (within (suc count)) s → (ltb most (suc count) ≡ false → Counted more) → Counted (unless_full text most kind count table s more)
  unfolding unless_full
  agrees-unless_full kind end over count table s more few a rest = by (leb most count) refl
    where
      by : (b : Bool) → leb most count ≡ b → Counted (unless_full text most kind count table s more)
      by true e =
          rw e (few, agrees-extra text w kind end (within (suc count)) (within count) (over (suc count) (lt-ltb most (suc count) (omega (arith, leb-true most count e)))) s a)
      by false e = rw e (rest (le-ltb most (suc count) (leb-false most count e)))

  -- item (sign item)*
  pub agrees-items : (item : ℕ → List ℕ → Step → Filed) (kind : ℕ)
      → ((count : ℕ) (table : List ℕ) (s : Step) → ltb most count ≡ false → Agrees text w (within (suc count)) s → Counted (item count table s))
      → ((n : ℕ) (s : Step) → ltb most n ≡ false → eqb (seen_at text s).kind kind ≡ true → Agrees text w (within n) s → Agrees text w (within (suc n)) (seen_at text s).past)
      → (count : ℕ) (table : List ℕ) (s : Step) → ltb most count ≡ false → Agrees text w (within (suc count)) s → Counted (items_after text item kind count table s)
  unfolding items_after more_items item_turn
  agrees-items item kind next past count table s few a =
      loop-keeps text (λ (f : Filed). f.listed.step) (λ k. eqb k kind) (item_turn text item kind) Counted
      (λ f i a. next f.listed.value f.table (seen_at text f.listed.step).past a.0 (past f.listed.value f.listed.step a.0 i a.1))
      (length text) (item count table s) (next count table s few a)
