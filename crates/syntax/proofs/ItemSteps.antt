-- The lists that are stored in a table, over what the calls of their readers answered.
-- Assumes nothing.
use Prim.Native.Nat.{ℕ, ◌+◌, ◌-◌, ◌≤◌, ◌<◌}
use mathlib.Core.Path.{◌≡◌, ap, ◌∙◌}
use mathlib.Core.List.{List}
use Rattle.syntax.specs.Step.{Step}
use Rattle.syntax.specs.declared.reader.Seen.{Seen}
use Rattle.syntax.specs.declared.reader.Read.{Read}
use Rattle.syntax.specs.Reader.{seen_at}
use Rattle.syntax.specs.Items.{Filed, item_turn, more_items}
use Rattle.syntax.proofs.LoopSteps.{sign-full, sign-end, sign-on}

-- a list and its table, apart
apart : {whole f : Filed} → f ≡ whole → (f.listed ≡ whole.listed) × (f.table ≡ whole.table)
apart e = (ap (λ (f : Filed). f.listed) e, ap (λ (f : Filed). f.table) e)

-- and together
together : {f : Filed} {a : Read ℕ} {t : List ℕ} → a ≡ f.listed → t ≡ f.table → record { listed = a; table = t } ≡ f
together e g = rw (e, g)

module _ (text : List ℕ) (item : ℕ → List ℕ → Step → Filed) (kind : ℕ) where
  -- (sign item)*: `whole` is what the loop comes to
  module _ (size turns : ℕ) (all : Read ℕ) (table : List ℕ) {whole : Filed} (is : whole ≡ more_items text item kind (size - turns) all.value table all.step) where
    pub items-full : size ≤ turns → (all ≡ whole.listed) × (table ≡ whole.table)
    unfolding more_items
    items-full z = apart (sign-full text (λ f. f.listed.step) kind (item_turn text item kind) size turns _ is z)

    pub items-end : {seen : Seen} → seen ≡ seen_at text all.step → (seen.kind ≡ kind → ⊥) → (all ≡ whole.listed) × (table ≡ whole.table)
    unfolding more_items
    items-end s e = apart (sign-end text (λ f. f.listed.step) kind (item_turn text item kind) size turns _ is s e)

    pub items-on : {seen : Seen} {one : Read ℕ} {next : List ℕ} → seen ≡ seen_at text all.step → turns < size → seen.kind ≡ kind
        → one ≡ (item all.value table seen.past).listed → next ≡ (item all.value table seen.past).table → whole ≡ more_items text item kind (size - (turns + 1)) one.value next one.step
    unfolding more_items item_turn
    items-on s z e a b =
        sign-on text (λ f. f.listed.step) kind (item_turn text item kind) size turns _ is s z e (together a b ∙ ap (λ (x : Seen). item all.value table x.past) s)
