-- The reading of a whole text, step by step: what the calls of the code come to.
-- Assumes nothing.
use Prim.Native.Nat.{ℕ}
use mathlib.Core.Path.{◌≡◌, sym, ap, ◌∙◌}
use mathlib.Core.List.{List}
use borrow.Author.Tests.{eq-eqb}
use Rattle.token.specs.Scan.{scan_at}
use Rattle.token.specs.Kind.{kind_of}
use Rattle.syntax.specs.Step.{Step}
use Rattle.std.specs.Prelude.{Ok, Err}
use Rattle.syntax.specs.declared.reader.Seen.{Seen}
use Rattle.syntax.specs.Reader.{seen_at, fixed_after}
use Rattle.syntax.specs.declared.text.Outline.{Outline}
use Rattle.syntax.specs.Text.{moved_to, Progress, idle, bare, parameter_with, parameters_with, declarations_with, reading_with, reading, outlined}
use Rattle.syntax.proofs.Folded.{same-outline}

-- a token that was looked at, and is of the kind that is due
pub seen-past : (text : List ℕ) (kind : ℕ) (s : Step) {seen : Seen} → seen ≡ seen_at text s → seen.kind ≡ kind → seen.past ≡ fixed_after text kind s
unfolding seen_at fixed_after
seen-past text kind (Ok at) e k = ap (λ (y : Seen). y.past) e ∙ rw (eq-eqb (kind_of (scan_at text at).token) kind (sym (ap (λ (y : Seen). y.kind) e) ∙ k))
seen-past text kind (Err stop) e k = ap (λ (y : Seen). y.past) e

-- an outline is the whole of a progress with nothing made
pub bare-is : {o : Outline} {p : Progress (Unit {0})} → o ≡ outlined p → bare o ≡ p
unfolding bare outlined
bare-is e = ap bare e

-- what a call of a test showed
module _ (text : List ℕ) (o : Outline) where
  -- a turn of the loop over parameters, over what its calls answered
  pub parameter-turn : {next : Outline} {seen : Seen} → seen ≡ seen_at text o.step → next ≡ outlined (parameter_with idle text (moved_to (bare o) seen.past))
      → bare next ≡ parameter_with idle text (moved_to (bare o) (seen_at text o.step).past)
  parameter-turn s n = bare-is n ∙ ap (λ (x : Seen). parameter_with idle text (moved_to (bare o) x.past)) s

-- the whole of a text, over what the calls of its two halves answered
idle-is : (text : List ℕ) {parameters all : Outline} {end : Step} → parameters ≡ outlined (parameters_with idle text (bare (record { parameters = 0; registers = 0; variables = 0; step = Ok 0 })))
    → all ≡ outlined (declarations_with idle text (bare parameters)) → end ≡ fixed_after text 255 all.step → outlined (moved_to (bare all) end) ≡ outlined (reading_with idle text tt)
unfolding reading_with bare outlined moved_to
idle-is text p a e = rw (e, a, p)

pub text-is : (text : List ℕ) {parameters all : Outline} {end : Step} → parameters ≡ outlined (parameters_with idle text (bare (record { parameters = 0; registers = 0; variables = 0; step = Ok 0 })))
    → all ≡ outlined (declarations_with idle text (bare parameters)) → end ≡ fixed_after text 255 all.step → outlined (moved_to (bare all) end) ≡ outlined (reading text)
text-is text p a e = idle-is text p a e ∙ same-outline idle text tt
