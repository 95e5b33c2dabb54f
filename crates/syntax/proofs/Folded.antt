-- Whatever is made of a text's declarations as they are read is what comes of the list of them afterwards: the reading
-- does not depend on it. Assumes nothing.
use Prim.Native.Nat.{ℕ, zero, suc}
use mathlib.Core.Path.{◌≡◌, refl, sym, ap, ◌∙◌}
use mathlib.Core.Bool.{Bool, true, false, cond}
use mathlib.Core.List.{List, [], ◌∷◌, foldl, foldl-append}
use lib.Dec.{eqb, leb}
use lib.ListN.{length}
use Rattle.syntax.specs.Step.{Step}
use Rattle.std.specs.Prelude.{Ok, Err}
use Rattle.syntax.specs.Reader.{seen_at, fixed_after}
use Rattle.syntax.specs.Loop.{loop_with}
use Rattle.syntax.specs.Text.{Declaration, a_device, a_parameter, a_register, a_variable, Progress, begins, moved_to, counted, taken, head_with, parameter_with, more_parameters, register_with, variable_with, declaration_with, more_declarations, parameters_with, declarations_with, reading_with, listed, reading, remade, outlined}
use Rattle.syntax.proofs.LoopSteps.{loop-end, loop-on}

-- a loop, seen through a function that its turns respect
loop_through : {P Q : Type 0} (text : List ℕ) (tells : ℕ → Bool) (step_p : P → Step) (step_q : Q → Step) (turn_p : P → P) (turn_q : Q → Q) (f : P → Q)
    → ((p : P) → step_q (f p) ≡ step_p p) → ((p : P) → f (turn_p p) ≡ turn_q (f p))
    → (room : ℕ) (p : P) → f (loop_with text step_p tells turn_p room p) ≡ loop_with text step_q tells turn_q room (f p)
unfolding loop_with
loop_through text tells step_p step_q turn_p turn_q f same turns zero p = refl
loop_through text tells step_p step_q turn_p turn_q f same turns (suc room) p =
    by (tells (seen_at text (step_p p)).kind) refl (loop_through text tells step_p step_q turn_p turn_q f same turns room (turn_p p))
  where
    by : (c : Bool) → tells (seen_at text (step_p p)).kind ≡ c → f (loop_with text step_p tells turn_p room (turn_p p)) ≡ loop_with text step_q tells turn_q room (f (turn_p p))
        → f (loop_with text step_p tells turn_p (suc room) p) ≡ loop_with text step_q tells turn_q (suc room) (f p)
    by true e rest =
        ap f (loop-on text step_p tells turn_p room p e) ∙ rest ∙ ap (loop_with text step_q tells turn_q room) (turns p)
        ∙ sym (loop-on text step_q tells turn_q room (f p) (ap (λ (s : Step). tells (seen_at text s).kind) (same p) ∙ e))
    by false e rest =
        ap f (loop-end text step_p tells turn_p (suc room) p e)
        ∙ sym (loop-end text step_q tells turn_q (suc room) (f p) (ap (λ (s : Step). tells (seen_at text s).kind) (same p) ∙ e))

module _ {X Y : Type 0} (j : X → Declaration → X) (k : Y → Declaration → Y) (f : X → Y) (same : (x : X) (d : Declaration) → f (j x d) ≡ k (f x) d) where
  counted_through : (p : Progress X) (d : Declaration) (next : ℕ) → remade f (counted j p d next) ≡ counted k (remade f p) d next
  unfolding counted remade
  counted_through p (a_device d) next = rw (same p.made (a_device d))
  counted_through p (a_parameter d) next = rw (same p.made (a_parameter d))
  counted_through p (a_register d) next = rw (same p.made (a_register d))
  counted_through p (a_variable d) next = rw (same p.made (a_variable d))

  taken_through : (p : Progress X) (d : Declaration) (s : Step) → remade f (taken j p d s) ≡ taken k (remade f p) d s
  unfolding taken moved_to remade
  taken_through p d (Ok next) = counted_through p d next
  taken_through p d (Err stop) = refl

  either_through : (c : Bool) (a b : Progress X) (u v : Progress Y) → remade f a ≡ u → remade f b ≡ v → remade f (cond c a b) ≡ cond c u v
  either_through true a b u v e g = e
  either_through false a b u v e g = g

  -- a declaration, or one too many, which is refused at `s`
  one_through : (c : Bool) (p : Progress X) (s : Step) (d : Declaration) (t : Step) → remade f (cond c (moved_to p s) (taken j p d t)) ≡ cond c (moved_to (remade f p) s) (taken k (remade f p) d t)
  unfolding moved_to remade
  one_through c p s d t = either_through c _ _ _ _ refl (taken_through p d t)

  module _ (text : List ℕ) where
    head_through : (p : Progress X) → remade f (head_with j text p) ≡ head_with k text (remade f p)
    unfolding head_with remade
    head_through p = taken_through p _ _

    parameter_through : (p : Progress X) → remade f (parameter_with j text p) ≡ parameter_with k text (remade f p)
    unfolding parameter_with moved_to remade
    parameter_through p = one_through (leb 16 p.parameters) p _ _ _

    more_parameters_through : (room : ℕ) (p : Progress X) → remade f (more_parameters j text room p) ≡ more_parameters k text room (remade f p)
    unfolding more_parameters moved_to remade
    more_parameters_through = loop_through text (λ kind. eqb kind 300) (λ p. p.step) (λ p. p.step) _ _ (remade f) (λ p. refl) (λ p. parameter_through (moved_to p (seen_at text p.step).past))

    declaration_through : (p : Progress X) → remade f (declaration_with j text p) ≡ declaration_with k text (remade f p)
    unfolding declaration_with register_with variable_with moved_to remade
    declaration_through p =
        either_through (eqb (seen_at text p.step).kind 529) _ _ _ _ (one_through (leb 64 p.registers) p _ _ _) (one_through (leb 128 p.variables) p _ _ _)

    more_declarations_through : (room : ℕ) (p : Progress X) → remade f (more_declarations j text room p) ≡ more_declarations k text room (remade f p)
    unfolding more_declarations remade
    more_declarations_through = loop_through text begins (λ p. p.step) (λ p. p.step) _ _ (remade f) (λ p. refl) declaration_through

    moved_through : (p : Progress X) (q : Progress Y) (kind : ℕ) → remade f p ≡ q → remade f (moved_to p (fixed_after text kind p.step)) ≡ moved_to q (fixed_after text kind q.step)
    unfolding moved_to remade
    moved_through p q kind e = ap (λ (r : Progress Y). moved_to r (fixed_after text kind r.step)) e

    parameters_through : (p : Progress X) → remade f (parameters_with j text p) ≡ parameters_with k text (remade f p)
    unfolding parameters_with
    parameters_through p =
        moved_through _ _ 297
        (more_parameters_through (length text) _ ∙ ap (more_parameters k text (length text)) (parameter_through (head_with j text p) ∙ ap (parameter_with k text) (head_through p)))

    declarations_through : (p : Progress X) → remade f (declarations_with j text p) ≡ declarations_with k text (remade f p)
    unfolding declarations_with moved_to remade
    declarations_through p = moved_through _ _ 381 (more_declarations_through (length text) _ ∙ ap (more_declarations k text (length text)) (declaration_through _))

    pub reading_through : (x : X) → remade f (reading_with j text x) ≡ reading_with k text (f x)
    unfolding reading_with remade
    reading_through x = moved_through _ _ 255 (declarations_through _ ∙ ap (declarations_with k text) (parameters_through _))

-- THE FOLD: to judge the declarations as they are read is to judge the list of them afterwards, in order.
pub reading-folds : {X : Type 0} (judge : X → Declaration → X) (text : List ℕ) (x : X) → reading_with judge text x ≡ remade (foldl judge x) (reading text)
unfolding reading listed
reading-folds judge text x = sym (reading_through listed judge (foldl judge x) (λ ds d. foldl-append judge x ds (d ∷ [])) text [])

-- The counts and the step are the same, whatever is made.
pub same-outline : {X : Type 0} (judge : X → Declaration → X) (text : List ℕ) (x : X) → outlined (reading_with judge text x) ≡ outlined (reading text)
unfolding outlined remade
same-outline judge text x = ap outlined (reading-folds judge text x)
