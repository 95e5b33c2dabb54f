-- The reading of a whole text follows the grammar, whatever is made of its declarations.
-- Assumes nothing.
use Prim.Native.Nat.{ℕ}
use mathlib.Core.Path.{◌≡◌, refl, sym, ap}
use mathlib.Core.Bool.{Bool, true, false, ◌||◌, cond}
use mathlib.Core.List.{List}
use lib.Dec.{eqb, leb}
use lib.ListN.{length, replicate}
use Rattle.grammar.specs.Grammar.{◌▸◌, ◌∣◌, opt, many, lookup, some_of, separated}
use Rattle.grammar.specs.Sets.{mem}
use Rattle.grammar.specs.Check.{nullable, first_with, first_of_rule, first}
use Rattle.syntax.proofs.KindNumbers.{'port', comma, colon, semicolon, lbrace, rbrace, at_sign}
use Rattle.syntax.proofs.Factored.{rules, param, width, ranges, register-ll, variable-ll, heading, device-ll}
use Rattle.syntax.specs.Step.{Step}
use Rattle.std.specs.Prelude.{Ok, Err}
use Rattle.token.specs.declared.Refusal.{Refusal}
use Rattle.syntax.specs.Reader.{seen_at, fixed_after, extra_after}
use Rattle.syntax.specs.Heading.{head_after}
use Rattle.syntax.specs.Parameter.{parameter_after}
use Rattle.syntax.specs.Register.{register_after}
use Rattle.syntax.specs.Variable.{variable_after}
use Rattle.syntax.specs.Text.{Declaration, a_device, a_parameter, a_register, a_variable, Progress, begins, moved_to, counted, taken, head_with, parameter_with, more_parameters, register_with, variable_with, declaration_with, more_declarations, parameters_with, declarations_with, reading_with}
use Rattle.syntax.proofs.Follows.{Follows, Tells, kind_at, same-reader, follows-held, pick-follows, follows-seq, follows-tok, follows-name, extra-follows, extra-refuses, past_is, only, follows-loop}
use Rattle.syntax.proofs.ParameterFollows.{follows-parameter}
use Rattle.syntax.proofs.AltFollows.{alt-follows}
use Rattle.syntax.proofs.RegisterFollows.{follows-register}
use Rattle.syntax.proofs.TailFollows.{follows-variable}
use Rattle.syntax.proofs.Claims.{ByGrammar, whole-right}

module _ {X : Type 0} (judge : X → Declaration → X) (text : List ℕ) where
  -- the step past a declaration, whether it counts or not
  taken_step : (p : Progress X) (d : Declaration) (s : Step) → (taken judge p d s).step ≡ s
  unfolding taken counted moved_to
  taken_step p (a_device d) (Ok next) = refl
  taken_step p (a_parameter d) (Ok next) = refl
  taken_step p (a_register d) (Ok next) = refl
  taken_step p (a_variable d) (Ok next) = refl
  taken_step p d (Err stop) = refl

  -- ---- parameters

  parameter-step : (p : Progress X) (s : Step) (c : Bool) → leb 16 p.parameters ≡ c
      → (parameter_with judge text (moved_to p s)).step ≡ cond c (extra_after text 1 s) (parameter_after text (replicate 32 0) s).parameter.step
  unfolding parameter_with moved_to
  parameter-step p s true e = rw e
  parameter-step p s false e = rw e (taken_step _ _ _)

  follows_next-parameter : (p : Progress X) → Follows text param (λ s. (parameter_with judge text (moved_to p s)).step)
  follows_next-parameter p =
      same-reader text
      (pick-follows text (leb 16 p.parameters) (extra-follows text 1 refl (colon ▸ width ▸ 'port' ▸ opt (at_sign ▸ lbrace ▸ ranges ▸ rbrace))) (follows-parameter text (replicate 32 0)))
      (λ s. parameter-step p s (leb 16 p.parameters) refl)

  follows-more_parameters : (p : Progress X) → Follows text (many (comma ▸ param)) (λ s. (more_parameters judge text (length text) (moved_to p s)).step)
  unfolding more_parameters moved_to mem first first_with first_of_rule nullable lookup rules
  follows-more_parameters =
      follows-loop text (λ p. p.step) moved_to (λ kind. eqb kind 300) (λ p. parameter_with judge text (moved_to p (seen_at text p.step).past))
      (λ p s. refl) (λ p. refl) (only text (comma ▸ param) 300 refl) refl refl
      (λ p s. (parameter_with judge text (moved_to p (fixed_after text 300 s))).step)
      (λ p. follows-seq text (follows-tok text 300 refl) (follows_next-parameter p))
      (λ p s i. ap (λ (t : Step). (parameter_with judge text (moved_to p t)).step) (past_is text s 300 refl i))

  follows-parameters : (p : Progress X) → Follows text (separated comma param) (λ s. (more_parameters judge text (length text) (parameter_with judge text (moved_to p s))).step)
  unfolding moved_to
  follows-parameters p =
      follows-held text (λ t s. (more_parameters judge text (length text) (moved_to (parameter_with judge text (moved_to p t)) (parameter_with judge text (moved_to p s)).step)).step)
      (λ t. follows-seq text (follows_next-parameter p) (follows-more_parameters (parameter_with judge text (moved_to p t))))

  -- device name ( parameters )
  headed : (p : Progress X) → moved_to (head_with judge text p) (head_after text p.step).step ≡ head_with judge text p
  unfolding head_with moved_to
  headed p = ap (moved_to (head_with judge text p)) (sym (taken_step p _ _))

  pub follows-heading : (p : Progress X) → Follows text heading (λ s. (parameters_with judge text (moved_to p s)).step)
  unfolding parameters_with moved_to head_after
  follows-heading p =
      same-reader text
      (follows-held text (λ t s. fixed_after text 297 (more_parameters judge text (length text) (parameter_with judge text (moved_to (head_with judge text (moved_to p t)) (head_after text s).step))).step)
      (λ t.
      follows-seq text (follows-tok text 516 refl) (follows-seq text (follows-name text) (follows-seq text (follows-tok text 296 refl)
      (follows-seq text (follows-parameters (head_with judge text (moved_to p t))) (follows-tok text 297 refl))))))
      (λ s. ap (λ (q : Progress X). fixed_after text 297 (more_parameters judge text (length text) (parameter_with judge text q)).step) (sym (headed (moved_to p s))))

  -- ---- declarations

  extra-stays : (k kind : ℕ) (s : Step) → fixed_after text k (extra_after text kind s) ≡ extra_after text kind s
  unfolding fixed_after
  extra-stays k kind s = by (extra_after text kind s) (extra-refuses text kind s)
    where
      by : (t : Step) → (stop : Refusal) × (t ≡ Err stop) → fixed_after text k t ≡ t
      by t (stop, e) = rw e

  -- a register, a variable, and one by its first word, over steps
  register_by : Progress X → Step → Step
  register_by p s = cond (leb 64 p.registers) (extra_after text 529 s) (register_after text s).step

  variable_by : Progress X → Step → Step
  variable_by p s = cond (leb 128 p.variables) (extra_after text 537 s) (variable_after text (replicate 40 0) (replicate 40 0) s).variable.step

  declaration_by : Progress X → Step → Step
  declaration_by p s = cond (eqb (kind_at text s) 529) (register_by p s) (variable_by p s)

  follows-register_by : (p : Progress X) → Follows text register-ll (register_by p)
  unfolding register_by
  follows-register_by p = pick-follows text (leb 64 p.registers) (extra-follows text 529 refl _) (follows-register text)

  follows-variable_by : (p : Progress X) → Follows text variable-ll (variable_by p)
  unfolding variable_by
  follows-variable_by p = pick-follows text (leb 128 p.variables) (extra-follows text 537 refl _) (follows-variable text (replicate 40 0) (replicate 40 0))

  follows-declaration_by : (p : Progress X) → Follows text (register-ll ∣ variable-ll) (declaration_by p)
  unfolding declaration_by mem first first_with first_of_rule nullable lookup rules
  follows-declaration_by p =
      alt-follows text 529 register-ll variable-ll refl refl refl refl (follows-register_by p) (follows-variable_by p) (declaration_by p)
      (λ s e. ap (λ (c : Bool). cond c (register_by p s) (variable_by p s)) e)
      (λ s e. ap (λ (c : Bool). cond c (register_by p s) (variable_by p s)) e)

  -- whichever it is, one that is whole or one too many, the semicolon comes last
  ended-step : (p : Progress X) (d : Declaration) (k : ℕ) (s whole : Step) (c : Bool)
      → (cond c (moved_to p (extra_after text k s)) (taken judge p d (fixed_after text 315 whole))).step ≡ fixed_after text 315 (cond c (extra_after text k s) whole)
  unfolding moved_to
  ended-step p d k s whole true = sym (extra-stays 315 k s)
  ended-step p d k s whole false = taken_step p d (fixed_after text 315 whole)

  declaration_step : (p : Progress X) (s : Step) (c : Bool) → eqb (kind_at text s) 529 ≡ c → (declaration_with judge text (moved_to p s)).step ≡ fixed_after text 315 (declaration_by p s)
  unfolding declaration_with register_with variable_with declaration_by register_by variable_by moved_to
  declaration_step p s true e = rw e (ended-step _ _ 529 s _ (leb 64 p.registers))
  declaration_step p s false e = rw e (ended-step _ _ 537 s _ (leb 128 p.variables))

  follows_declaration : (p : Progress X) → Follows text ((register-ll ∣ variable-ll) ▸ semicolon) (λ s. (declaration_with judge text (moved_to p s)).step)
  follows_declaration p = same-reader text (follows-seq text (follows-declaration_by p) (follows-tok text 315 refl)) (λ s. declaration_step p s (eqb (kind_at text s) 529) refl)

  begins-is : Tells text ((register-ll ∣ variable-ll) ▸ semicolon) begins
  unfolding begins mem first first_with first_of_rule nullable lookup rules
  begins-is kind = by (eqb kind 529) (eqb kind 537)
    where
      by : (a b : Bool) → (a || (b || false)) ≡ (a || b)
      by true b = refl
      by false true = refl
      by false false = refl

  follows-more_declarations : (p : Progress X) → Follows text (many ((register-ll ∣ variable-ll) ▸ semicolon)) (λ s. (more_declarations judge text (length text) (moved_to p s)).step)
  unfolding more_declarations moved_to begins nullable
  follows-more_declarations =
      follows-loop text (λ p. p.step) moved_to begins (declaration_with judge text) (λ p s. refl) (λ p. refl) begins-is refl refl
      (λ p s. (declaration_with judge text (moved_to p s)).step) follows_declaration (λ p s i. refl)

  follows-declarations : (p : Progress X) → Follows text (some_of ((register-ll ∣ variable-ll) ▸ semicolon)) (λ s. (more_declarations judge text (length text) (declaration_with judge text (moved_to p s))).step)
  unfolding moved_to
  follows-declarations p =
      follows-held text (λ t s. (more_declarations judge text (length text) (moved_to (declaration_with judge text (moved_to p t)) (declaration_with judge text (moved_to p s)).step)).step)
      (λ t. follows-seq text (follows_declaration p) (follows-more_declarations (declaration_with judge text (moved_to p t))))

  pub follows-body : (p : Progress X) → Follows text (lbrace ▸ some_of ((register-ll ∣ variable-ll) ▸ semicolon) ▸ rbrace) (λ s. (declarations_with judge text (moved_to p s)).step)
  unfolding declarations_with moved_to
  follows-body p = follows-seq text (follows-tok text 379 refl) (follows-seq text (follows-declarations p) (follows-tok text 381 refl))

  -- ---- the device

  pub follows-device : (p : Progress X) → Follows text device-ll (λ s. (declarations_with judge text (parameters_with judge text (moved_to p s))).step)
  unfolding moved_to
  follows-device p =
      follows-held text (λ t s. (declarations_with judge text (moved_to (parameters_with judge text (moved_to p t)) (parameters_with judge text (moved_to p s)).step)).step)
      (λ t. follows-seq text (follows-heading p) (follows-body (parameters_with judge text (moved_to p t))))

  -- THE TEXT, by the published grammar
  pub reading-grammatical : (x : X) → ByGrammar text (reading_with judge text x).step
  unfolding reading_with moved_to
  reading-grammatical x = whole-right text _ (follows-device (record { parameters = 0; registers = 0; variables = 0; made = x; step = Ok 0 }))
