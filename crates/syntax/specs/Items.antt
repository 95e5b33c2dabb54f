-- The lists whose items are stored in a lent table, `item (sign item)*`: the ranges of a parameter, the pieces of a bit
-- list.
use Rattle.std.specs.Prelude.{cond, ℕ, List, eqb, leb, length}
use Rattle.syntax.specs.Step.{Step}
use Rattle.syntax.specs.declared.reader.Read.{Read}
use Rattle.syntax.specs.Reader.{seen_at, fixed_after, extra_after}
use Rattle.syntax.specs.Loop.{loop_with}

-- what was read, and the table that holds it
pub record Filed : Type 0 where
  pub listed : Read ℕ
  pub table : List ℕ

module _ (text : List ℕ) where
  -- one more item; where there are as many as there may be, one that begins with a token of the kind is refused
  unfoldable pub unless_full : ℕ → ℕ → ℕ → List ℕ → Step → Filed → Filed
  unless_full most kind count table from more =
      cond (leb most count) (record { listed = record { value = count; step = extra_after text kind from }; table = table }) more

  -- the sign after a list
  unfoldable pub closed_by : ℕ → Filed → Filed
  closed_by kind f = record { listed = record { value = f.listed.value; step = fixed_after text kind f.listed.step }; table = f.table }

  -- `item` reads one more, behind so many
  module _ (item : ℕ → List ℕ → Step → Filed) (kind : ℕ) where
    -- (sign item)*
    unfoldable pub item_turn : Filed → Filed
    item_turn f = item f.listed.value f.table (seen_at text f.listed.step).past

    unfoldable pub more_items : ℕ → ℕ → List ℕ → Step → Filed
    more_items room count table from =
        loop_with text (λ f. f.listed.step) (λ k. eqb k kind) item_turn room (record { listed = record { value = count; step = from }; table = table })

    -- item (sign item)*
    unfoldable pub items_after : ℕ → List ℕ → Step → Filed
    items_after count table from =
        let one : Filed = item count table from in
        more_items (length text) one.listed.value one.table one.listed.step
