-- The loader's loops, step by step: what the calls of the code come to, over the tables that they leave.
-- Assumes nothing.
use Prim.Native.Nat.{ℕ}
use mathlib.Core.Path.{◌≡◌, refl, ap, ◌∙◌}
use mathlib.Core.List.{List}
use lib.ListN.{length}
use Rattle.syntax.specs.Step.{Step}
use Rattle.syntax.specs.declared.reader.Seen.{Seen}
use Rattle.syntax.specs.Reader.{seen_at, fixed_after}
use Rattle.syntax.specs.Text.{Progress, moved_to, head_with, parameter_with, more_parameters, parameters_with, declaration_with, more_declarations, declarations_with}
use Rattle.loader.specs.declared.heading.Loading.{Loading}
use Rattle.rules.specs.State.{State}
use Rattle.loader.specs.Judge.{judge, progress_of, moved_by}

moved-is : (l : Loading) (s : Step) (ps rs vs : List ℕ) → progress_of (moved_by l s) ps rs vs ≡ moved_to (progress_of l ps rs vs) s
unfolding progress_of moved_to
moved-is l s ps rs vs = refl

-- a move, over what the call answered
pub moved_to_lem : {r : Loading} (l : Loading) (s : Step) (ps rs vs : List ℕ) → r ≡ moved_by l s → progress_of r ps rs vs ≡ moved_to (progress_of l ps rs vs) s
moved_to_lem l s ps rs vs e = ap (λ (x : Loading). progress_of x ps rs vs) e ∙ moved-is l s ps rs vs

module _ (text : List ℕ) where
  abbrev past : ℕ → Progress State → Progress State
  past kind p = moved_to p (fixed_after text kind p.step)

  -- a token is due behind what was read
  closed : {r : Loading} {close : Step} (all : Loading) (kind : ℕ) (ps rs vs : List ℕ) → close ≡ fixed_after text kind all.step → r ≡ moved_by all close
      → progress_of r ps rs vs ≡ past kind (progress_of all ps rs vs)
  unfolding progress_of
  closed all kind ps rs vs c e = moved_to_lem all _ ps rs vs e ∙ ap (moved_to (progress_of all ps rs vs)) c

  -- a turn of the loop over parameters, over what its calls answered
  pub parameter-turn : {behind : Loading} {seen : Seen} (all next : Loading) (ps qs rs vs : List ℕ) → seen ≡ seen_at text all.step → behind ≡ moved_by all seen.past
      → progress_of next qs rs vs ≡ parameter_with (judge text) text (progress_of behind ps rs vs)
      → progress_of next qs rs vs ≡ parameter_with (judge text) text (moved_to (progress_of all ps rs vs) (seen_at text (progress_of all ps rs vs).step).past)
  unfolding progress_of
  parameter-turn all next ps qs rs vs s b n =
      n ∙ ap (parameter_with (judge text) text) (moved_to_lem all _ ps rs vs b ∙ ap (λ (x : Seen). moved_to (progress_of all ps rs vs) x.past) s)

  -- the first half of a text
  pub parameters-are : {r : Loading} {close : Step} (l head one all : Loading) (ps qs os rs vs : List ℕ)
      → ((ps rs vs : List ℕ) → progress_of head ps rs vs ≡ head_with (judge text) text (progress_of l ps rs vs))
      → progress_of one qs rs vs ≡ parameter_with (judge text) text (progress_of head ps rs vs)
      → progress_of all os rs vs ≡ more_parameters (judge text) text (length text) (progress_of one qs rs vs)
      → close ≡ fixed_after text 297 all.step → r ≡ moved_by all close
      → progress_of r os rs vs ≡ parameters_with (judge text) text (progress_of l ps rs vs)
  unfolding parameters_with
  parameters-are l head one all ps qs os rs vs h n a c e =
      closed all 297 os rs vs c e
      ∙ ap (past 297) (a ∙ ap (more_parameters (judge text) text (length text)) (n ∙ ap (parameter_with (judge text) text) (h ps rs vs)))

  -- the second half
  pub declarations-are : {inside r : Loading} {brace close : Step} (l one all : Loading) (ps rs vs rs₁ vs₁ rs₂ vs₂ : List ℕ)
      → brace ≡ fixed_after text 379 l.step → inside ≡ moved_by l brace
      → progress_of one ps rs₁ vs₁ ≡ declaration_with (judge text) text (progress_of inside ps rs vs)
      → progress_of all ps rs₂ vs₂ ≡ more_declarations (judge text) text (length text) (progress_of one ps rs₁ vs₁)
      → close ≡ fixed_after text 381 all.step → r ≡ moved_by all close
      → progress_of r ps rs₂ vs₂ ≡ declarations_with (judge text) text (progress_of l ps rs vs)
  unfolding declarations_with
  declarations-are l one all ps rs vs rs₁ vs₁ rs₂ vs₂ b i n a c e =
      closed all 381 ps rs₂ vs₂ c e
      ∙ ap (past 381)
      (a ∙ ap (more_declarations (judge text) text (length text)) (n ∙ ap (declaration_with (judge text) text) (closed l 379 ps rs vs b i)))
