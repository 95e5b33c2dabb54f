-- The first half of a text counts neither registers nor variables.
-- Assumes nothing.
use Prim.Native.Nat.{ℕ}
use mathlib.Core.Path.{◌≡◌}
use mathlib.Core.List.{List}
use Rattle.syntax.specs.Text.{Progress, moved_to, counted, parameters_with}
use Rattle.rules.specs.State.{State}
use Rattle.loader.specs.Judge.{judge}
use Rattle.loader.proofs.ReadKeeps.{parameters-keep}

-- none of either
abbrev pub NoneRead : Progress State → Type 0
NoneRead p = (p.registers ≡ 0) × (p.variables ≡ 0)

pub none-parameters : (text : List ℕ) (p : Progress State) → NoneRead p → NoneRead (parameters_with (judge text) text p)
unfolding counted moved_to
none-parameters text = parameters-keep (judge text) text NoneRead (λ p s i. i) (λ p d next i. i) (λ p d next few sets i. i)
