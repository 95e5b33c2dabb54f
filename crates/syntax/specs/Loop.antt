-- Every list of the language, `(turn)*`: a turn is taken as long as the next token's kind tells one.
use Rattle.std.specs.Prelude.{ℕ, zero, suc, Bool, true, false, List}
use Rattle.syntax.specs.Step.{Step}
use Rattle.syntax.specs.Reader.{seen_at}

-- `P` is what the list answers, with its step. `room` is never used up where it is the text's length, as a turn takes
-- some bytes.
module _ {P : Type 0} (text : List ℕ) (step : P → Step) (tells : ℕ → Bool) (turn : P → P) where
  unfoldable pub loop_with : ℕ → P → P
  loop_with zero p = p
  loop_with (suc room) p = elim (tells (seen_at text (step p)).kind) [ true ↦ loop_with room (turn p) | false ↦ p ]
