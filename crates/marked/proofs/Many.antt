-- 64 registers, and one more. The checker bounds the steps of one declaration, so the text is loaded in strides of
-- seven registers, each computed by itself. Assumes nothing.
use Prim.Native.Nat.{ℕ, zero, suc, ◌+◌, ◌-◌, ◌*◌}
use mathlib.Core.Path.{◌≡◌, refl, sym, ap, ◌∙◌}
use mathlib.Core.Bool.{false}
use mathlib.Core.List.{List, ◌∷◌, ◌++◌}
use lib.ListN.{length, replicate}
use Rattle.std.specs.Prelude.{Ok, None}
use Rattle.syntax.specs.Step.{too_much_at}
use Rattle.syntax.specs.KindNames.{sign, end-kind}
use Rattle.syntax.specs.Reader.{fixed_after}
use Rattle.syntax.specs.Text.{Progress, begins, moved_to, declaration_with, more_declarations, parameters_with, declarations_with, reading_with, reading, remade}
use Rattle.syntax.proofs.Folded.{reading-folds}
use Rattle.rules.specs.State.{State}
use Rattle.loader.specs.Verdict.{accepted, refused}
use Rattle.loader.specs.Judge.{judge}
use Rattle.loader.specs.Load.{beginning, judged, once_read, verdict_of, is_short, is_long, load_of}
use Rattle.marked.specs.Marked.{registers_then, many, blank}
use Rattle.marked.proofs.Computing.{computing}
use Rattle.marked.proofs.Strides.{loop-ahead}

-- the verdict on a text that is not too long is what judging it comes to
sized : (text : List ℕ) → is_long text ≡ false → (load_of text blank).verdict ≡ verdict_of (judged text)
unfolding load_of is_short blank
sized text e = rw e

-- ── one more: reading alone decides ──

too_many_lem : (reading (many 65)).step ≡ too_much_at 2976
unfolding computing
too_many_lem = refl

pub sixty-five : (load_of (many 65) blank).verdict ≡ refused 5 2976
unfolding verdict_of judged remade once_read
sixty-five = sized (many 65) (unfold computing in refl) ∙ rw too_many_lem

-- ── 64 ──

abbrev text : List ℕ
text = many 64

-- where register i begins
abbrev start : ℕ → ℕ
start i = 32 + 46 * i

-- its entry: name place, name length, width; the read part: present, parameter, offset, no dot and no fixed bit; no
-- write part
entry : ℕ → List ℕ
entry i = (start i + 9) ∷ 3 ∷ 8 ∷ 1 ∷ 0 ∷ i ∷ replicate 9 0

entries_then : ℕ → List ℕ → List ℕ
unfolding entry
entries_then zero rest = rest
entries_then (suc n) rest = entries_then n (entry n ++ rest)

-- how far loading has come after n registers, of which there is one at least
loaded_to : ℕ → Progress State
unfolding entries_then
loaded_to n =
    record {
      parameters = 1;
      registers = n;
      variables = 0;
      made = record {
        place = 7;
        extent = 1;
        parameters = 1 ∷ 9 ∷ 1 ∷ 8 ∷ 1 ∷ 0 ∷ 63 ∷ replicate 570 0;
        registers = n ∷ entries_then n (replicate (960 - 15 * n) 0);
        variables = replicate 7553 0;
        fault = None;
      };
      step = Ok (start n);
    }

-- so many declarations more
abbrev more : ℕ → Progress State → Progress State
more n p = more_declarations (judge text) text n p

-- the heading, and the first register
abbrev heading : Progress State
heading = parameters_with (judge text) text (record { parameters = 0; registers = 0; variables = 0; made = beginning; step = Ok 0 })

abbrev first : Progress State
first = declaration_with (judge text) text (moved_to heading (fixed_after text (sign "{") heading.step))

-- the closing brace, and the end
abbrev closed : Progress State → Progress State
closed p =
    let all : Progress State = moved_to p (fixed_after text (sign "}") p.step) in
    moved_to all (fixed_after text end-kind all.step)

-- seven by seven
to_1 : first ≡ loaded_to 1
unfolding computing loaded_to
to_1 = refl

to-8 : more 7 (loaded_to 1) ≡ loaded_to 8
unfolding computing loaded_to
to-8 = refl

to_15 : more 7 (loaded_to 8) ≡ loaded_to 15
unfolding computing loaded_to
to_15 = refl

to_22 : more 7 (loaded_to 15) ≡ loaded_to 22
unfolding computing loaded_to
to_22 = refl

to_29 : more 7 (loaded_to 22) ≡ loaded_to 29
unfolding computing loaded_to
to_29 = refl

to_36 : more 7 (loaded_to 29) ≡ loaded_to 36
unfolding computing loaded_to
to_36 = refl

to_43 : more 7 (loaded_to 36) ≡ loaded_to 43
unfolding computing loaded_to
to_43 = refl

to_50 : more 7 (loaded_to 43) ≡ loaded_to 50
unfolding computing loaded_to
to_50 = refl

to_57 : more 7 (loaded_to 50) ≡ loaded_to 57
unfolding computing loaded_to
to_57 = refl

to_64 : more 7 (loaded_to 57) ≡ loaded_to 64
unfolding computing loaded_to
to_64 = refl

to_end : verdict_of (closed (more 2914 (loaded_to 64))) ≡ accepted 1 64 0
unfolding computing loaded_to
to_end = refl

-- a stride, and then the others
on : (room : ℕ) (p q : Progress State) → more 7 p ≡ q → more (7 + room) p ≡ more room q
unfolding more_declarations
on room p q e = loop-ahead text (λ p. p.step) begins (declaration_with (judge text) text) 7 room p ∙ ap (more room) e

strides : more (length text) first ≡ more 2914 (loaded_to 64)
unfolding many registers_then
strides =
    ap (more 2977) to_1
    ∙ on 2970 (loaded_to 1) (loaded_to 8) to-8
    ∙ on 2963 (loaded_to 8) (loaded_to 15) to_15
    ∙ on 2956 (loaded_to 15) (loaded_to 22) to_22
    ∙ on 2949 (loaded_to 22) (loaded_to 29) to_29
    ∙ on 2942 (loaded_to 29) (loaded_to 36) to_36
    ∙ on 2935 (loaded_to 36) (loaded_to 43) to_43
    ∙ on 2928 (loaded_to 43) (loaded_to 50) to_50
    ∙ on 2921 (loaded_to 50) (loaded_to 57) to_57
    ∙ on 2914 (loaded_to 57) (loaded_to 64) to_64

pub sixty-four : (load_of (many 64) blank).verdict ≡ accepted 1 64 0
unfolding judged reading_with declarations_with
sixty-four =
    sized text (unfold computing in refl)
    ∙ ap verdict_of (sym (reading-folds (judge text) text beginning))
    ∙ ap (λ (p : Progress State). verdict_of (closed p)) strides
    ∙ to_end
