-- A long text is gone through in strides: a number of declarations at a time.
-- Assumes nothing.
use Prim.Native.Nat.{ℕ, zero, suc, ◌+◌}
use native.Mathlib.Nat.{zero-add, suc-add}
use mathlib.Core.Path.{◌≡◌, refl, sym, ap, ◌∙◌}
use mathlib.Core.Bool.{Bool, true, false}
use mathlib.Core.List.{List}
use Rattle.syntax.specs.Step.{Step}
use Rattle.syntax.specs.Reader.{seen_at}
use Rattle.syntax.specs.Loop.{loop_with}
use Rattle.syntax.proofs.LoopSteps.{loop-end, loop-on}

-- n turns of a loop, and then the others
pub loop-ahead : {P : Type 0} (text : List ℕ) (step : P → Step) (tells : ℕ → Bool) (turn : P → P) (n room : ℕ) (p : P)
    → loop_with text step tells turn (n + room) p ≡ loop_with text step tells turn room (loop_with text step tells turn n p)
unfolding loop_with
loop-ahead text step tells turn zero room p = rw (zero-add room)
loop-ahead text step tells turn (suc n) room p = by (tells (seen_at text (step p)).kind) refl (loop-ahead text step tells turn n room (turn p))
  where
    by : (c : Bool) → tells (seen_at text (step p)).kind ≡ c
        → loop_with text step tells turn (n + room) (turn p) ≡ loop_with text step tells turn room (loop_with text step tells turn n (turn p))
        → loop_with text step tells turn (suc n + room) p ≡ loop_with text step tells turn room (loop_with text step tells turn (suc n) p)
    by true e rest =
        ap (λ (k : ℕ). loop_with text step tells turn k p) (suc-add n room) ∙ loop-on text step tells turn (n + room) p e ∙ rest
        ∙ ap (loop_with text step tells turn room) (sym (loop-on text step tells turn n p e))
    by false e rest =
        loop-end text step tells turn (suc n + room) p e ∙ sym (loop-end text step tells turn room p e)
        ∙ ap (loop_with text step tells turn room) (sym (loop-end text step tells turn (suc n) p e))
