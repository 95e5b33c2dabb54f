-- The lists that are stored in a table: where an item follows its grammar, so does the list of them.
-- Assumes nothing.
use Prim.Native.Nat.{ℕ}
use mathlib.Core.Path.{◌≡◌, refl, ap}
use mathlib.Core.Bool.{Bool, true, false, cond}
use mathlib.Core.List.{List}
use lib.Dec.{eqb, leb}
use lib.ListN.{length}
use Rattle.grammar.specs.Grammar.{Grammar, tok, ◌▸◌, many, separated, lookup}
use Rattle.grammar.specs.Sets.{mem}
use Rattle.grammar.specs.Check.{nullable, first_with, first_of_rule, first}
use Rattle.syntax.specs.Step.{Step}
use Rattle.std.specs.Prelude.{Ok}
use Rattle.syntax.specs.Reader.{fixed_after, extra_after}
use Rattle.syntax.specs.Items.{Filed, unless_full, item_turn, more_items, items_after}
use Rattle.syntax.proofs.Factored.{rules}
use Rattle.syntax.proofs.Follows.{Follows, same-reader, follows-held, pick-follows, follows-seq, follows-tok, extra-follows, past_is, only, follows-loop}

module _ (text : List ℕ) where
  -- one more item, or one too many
  module _ (most kind count : ℕ) (table : List ℕ) where
    full-step : (s : Step) (more : Filed) (c : Bool) → leb most count ≡ c → (unless_full text most kind count table s more).listed.step ≡ cond c (extra_after text kind s) more.listed.step
    unfolding unless_full
    full-step s more true e = rw e
    full-step s more false e = rw e

    pub follows-unless_full : (more : Step → Filed) {g : Grammar} → eqb 255 kind ≡ false → Follows text (tok kind ▸ g) (λ s. (more s).listed.step)
        → Follows text (tok kind ▸ g) (λ s. (unless_full text most kind count table s (more s)).listed.step)
    follows-unless_full more {g} e r = same-reader text (pick-follows text (leb most count) (extra-follows text kind e g) r) (λ s. full-step s (more s) (leb most count) refl)

  module _ (item : ℕ → List ℕ → Step → Filed) (kind : ℕ) (e : eqb 255 kind ≡ false) {g : Grammar} (reads : (count : ℕ) (table : List ℕ) → Follows text g (λ s. (item count table s).listed.step)) where
    -- (sign item)*
    follows-more : (count : ℕ) (table : List ℕ) → Follows text (many (tok kind ▸ g)) (λ s. (more_items text item kind (length text) count table s).listed.step)
    unfolding more_items item_turn mem first first_with first_of_rule nullable lookup rules
    follows-more count table =
        follows-loop text (λ (f : Filed). f.listed.step) (λ f s. record { listed = record { value = f.listed.value; step = s }; table = f.table })
        (λ k. eqb k kind) (item_turn text item kind) (λ f s. refl) (λ f. refl)
        (only text (tok kind ▸ g) kind refl) e refl (λ f s. (item f.listed.value f.table (fixed_after text kind s)).listed.step)
        (λ f. follows-seq text (follows-tok text kind e) (reads f.listed.value f.table))
        (λ f s i. ap (λ (t : Step). (item f.listed.value f.table t).listed.step) (past_is text s kind e i))
        (record { listed = record { value = count; step = Ok 0 }; table = table })

    -- item (sign item)*
    pub follows-items : (count : ℕ) (table : List ℕ) → Follows text (separated (tok kind) g) (λ s. (items_after text item kind count table s).listed.step)
    unfolding items_after
    follows-items count table =
        follows-held text (λ t s. (more_items text item kind (length text) (item count table t).listed.value (item count table t).table (item count table s).listed.step).listed.step)
        (λ t. follows-seq text (reads count table) (follows-more (item count table t).listed.value (item count table t).table))
