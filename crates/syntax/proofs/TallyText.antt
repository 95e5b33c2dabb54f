-- The reading of a whole text agrees with the count of sizes, whatever is made of its declarations.
-- Assumes nothing.
use Prim.Native.Nat.{ℕ, suc, ◌+◌, min}
use native.Mathlib.Omega.{arith}
use mathlib.Core.Path.{◌≡◌, refl, ap, subst}
use mathlib.Core.Bool.{Bool, true, false, ◌||◌, cond}
use mathlib.Core.List.{List, []}
use mathlib.Core.Option.{Option}
use lib.Dec.{eqb, leb, ltb}
use lib.ListN.{length, replicate}
use borrow.Author.Tests.{leb-true, leb-false, lt-ltb, le-ltb}
use Rattle.token.specs.Tokens.{tokens_from, tokens_at}
use Rattle.syntax.specs.Step.{Step}
use Rattle.std.specs.Prelude.{Ok, Err}
use Rattle.syntax.specs.declared.reader.Named.{Named}
use Rattle.syntax.specs.declared.register.Register.{Register}
use Rattle.syntax.specs.Reader.{seen_at, fixed_after, extra_after}
use Rattle.syntax.specs.Heading.{head_after}
use Rattle.syntax.specs.Variable.{VariableRead}
use Rattle.syntax.specs.Text.{Declaration, a_device, a_parameter, a_register, a_variable, Progress, begins, moved_to, counted, taken, head_with, parameter_with, more_parameters, register_with, variable_with, declaration_with, more_declarations, parameters_with, declarations_with, reading_with}
use Rattle.syntax.specs.Sizes.{Spot, front, parameter, body, register, piece, onward, passes_at, asks_operand, Tally, nothing_yet, tallied, too_much, passed_in, passed_at, Kept}
use Rattle.syntax.proofs.LoopSteps.{loop-keeps}
use Rattle.syntax.proofs.Tally.{Agrees, refused-agrees, agrees-tok, agrees-past, agrees-name, agrees-extra, agrees-end}
use Rattle.syntax.proofs.TallyParameter.{agrees-parameter}
use Rattle.syntax.proofs.TallyRegister.{agrees-register}
use Rattle.syntax.proofs.TallyVariable.{agrees-variable}

next_one : (n : ℕ) → suc n ≡ n + 1
next_one n = omega arith

module _ {X : Type 0} (judge : X → Declaration → X) (text : List ℕ) (w : Option ℕ) where
  -- the count where so much has been declared
  abbrev tally : ℕ → ℕ → Spot → Tally
  tally r v spot = record { registers = r; variables = v; spot = spot }

  abbrev At-spot : (Progress X → Spot) → Progress X → Type 0
  At-spot spot p = Agrees text w (tally p.registers p.variables (spot p)) p.step

  -- ---- the heading

  -- as many parameters as are counted
  abbrev InHeading : Progress X → Type 0
  InHeading p = (ltb 16 p.parameters ≡ false) × At-spot (λ q. parameter q.parameters) p

  -- device name (
  head_agrees : (p : Progress X) → At-spot (λ q. front) p → Agrees text w (tally p.registers p.variables (parameter 1)) (head_after text p.step).step
  unfolding head_after tallied too_much passes_at onward
  head_agrees p a =
      agrees-tok text w 296 (tally p.registers p.variables front) refl refl refl _
      (agrees-name text w (tally p.registers p.variables front) refl _ (agrees-tok text w 516 (tally p.registers p.variables front) refl refl refl p.step a))

  -- one more parameter has been read, or the reading has stopped
  parameter-taken : (p : Progress X) (d : _) (s : Step) → ltb 16 p.parameters ≡ false → ltb 16 (suc p.parameters) ≡ false
      → Agrees text w (tally p.registers p.variables (parameter (suc p.parameters))) s → InHeading (taken judge p (a_parameter d) s)
  unfolding taken counted moved_to
  parameter-taken p d (Ok next) few fits a =
      subst (λ (n : ℕ). (ltb 16 n ≡ false) × Agrees text w (tally p.registers p.variables (parameter n)) (Ok next)) (next_one p.parameters) (fits, a)
  parameter-taken p d (Err stop) few fits a = (few, refused-agrees text w _ _ stop a)

  parameter-agrees : (p : Progress X) → ltb 16 p.parameters ≡ false → At-spot (λ q. parameter (suc q.parameters)) p → InHeading (parameter_with judge text p)
  unfolding parameter_with moved_to too_much passes_at
  parameter-agrees p few a = by (leb 16 p.parameters) refl
    where
      by : (b : Bool) → leb 16 p.parameters ≡ b → InHeading (parameter_with judge text p)
      by true e = rw e (few, agrees-extra text w 1 refl (tally p.registers p.variables (parameter (suc p.parameters))) (tally p.registers p.variables (parameter p.parameters)) (lt-ltb 16 (suc p.parameters) (omega (arith, leb-true 16 p.parameters e))) p.step a)
      by false e =
          let fits = le-ltb 16 (suc p.parameters) (leb-false 16 p.parameters e) in
          rw e (parameter-taken p _ _ few fits (agrees-parameter text w p.registers p.variables (suc p.parameters) fits (replicate 32 0) p.step a))

  -- (, param)*
  parameters-agree : (room : ℕ) (p : Progress X) → InHeading p → InHeading (more_parameters judge text room p)
  unfolding more_parameters moved_to tallied too_much passes_at onward
  parameters-agree room p i =
      loop-keeps text (λ (q : Progress X). q.step) (λ kind. eqb kind 300) (λ (q : Progress X). parameter_with judge text (moved_to q (seen_at text q.step).past)) InHeading
      (λ q e i. parameter-agrees (moved_to q (seen_at text q.step).past) i.0
      (agrees-past text w 300 (tally q.registers q.variables (parameter q.parameters)) refl refl i.0 q.step e i.1)) room p i

  -- the device has been read, before any parameter
  head_taken : (p : Progress X) (d : Named) (s : Step) → p.parameters ≡ 0 → Agrees text w (tally p.registers p.variables (parameter 1)) s
      → (ltb 16 (taken judge p (a_device d) s).parameters ≡ false) × At-spot (λ q. parameter (suc q.parameters)) (taken judge p (a_device d) s)
  unfolding taken counted moved_to
  head_taken p d (Ok next) z a = rw z (refl, a)
  head_taken p d (Err stop) z a = rw z (refl, a)

  -- device name ( param (, param)* )
  heading-agrees : (p : Progress X) → p.parameters ≡ 0 → At-spot (λ q. front) p → At-spot (λ q. body) (parameters_with judge text p)
  unfolding parameters_with moved_to head_with tallied too_much passes_at onward
  heading-agrees p z a =
      let head = head_taken p (head_after text p.step) (head_after text p.step).step z (head_agrees p a) in
      let all = parameters-agree (length text) (parameter_with judge text (head_with judge text p)) (parameter-agrees (head_with judge text p) head.0 head.1) in
      agrees-tok text w 297 (tally _ _ (parameter _)) refl refl all.0 _ all.1

  -- ---- the declarations

  -- one more declaration that begins with a word of this kind, or one too many
  one-agrees : (kind most count : ℕ) (p : Progress X) (d : Declaration) (s : Step) → eqb 255 kind ≡ false
      → (ltb most (suc count) ≡ true → too_much (tally p.registers p.variables body) kind ≡ true) → At-spot (λ q. body) p
      → (ltb most (suc count) ≡ false → At-spot (λ q. body) (taken judge p d s)) → At-spot (λ q. body) (cond (leb most count) (moved_to p (extra_after text kind p.step)) (taken judge p d s))
  unfolding moved_to
  one-agrees kind most count p d s end over a whole = by (leb most count) refl
    where
      by : (b : Bool) → leb most count ≡ b → At-spot (λ q. body) (cond b (moved_to p (extra_after text kind p.step)) (taken judge p d s))
      by true e =
          agrees-extra text w kind end (tally p.registers p.variables body) (tally p.registers p.variables body)
          (over (lt-ltb most (suc count) (omega (arith, leb-true most count e)))) p.step a
      by false e = whole (le-ltb most (suc count) (leb-false most count e))

  -- a register ;
  register_taken_lem : (p : Progress X) (d : Register) (s : Step) → Agrees text w (tally (suc p.registers) p.variables body) s → At-spot (λ q. body) (taken judge p (a_register d) s)
  unfolding taken counted moved_to
  register_taken_lem p d (Ok next) a = subst (λ (n : ℕ). Agrees text w (tally n p.variables body) (Ok next)) (next_one p.registers) a
  register_taken_lem p d (Err stop) a = refused-agrees text w _ _ stop a

  register-agrees : (p : Progress X) → At-spot (λ q. body) p → At-spot (λ q. body) (register_with judge text p)
  unfolding register_with asks_operand tallied too_much passes_at onward
  register-agrees p a =
      one-agrees 529 64 p.registers p _ _ refl (ap (λ (c : Bool). c || false)) a
      (λ fits. register_taken_lem p _ _ (agrees-tok text w 315 (tally (suc p.registers) p.variables (register [])) refl refl refl _
      (agrees-register text w p.registers p.variables fits p.step a)))

  -- a variable ;
  variable-taken : (p : Progress X) (d : VariableRead) (s : Step) → Agrees text w (tally p.registers (suc p.variables) body) s → At-spot (λ q. body) (taken judge p (a_variable d) s)
  unfolding taken counted moved_to
  variable-taken p d (Ok next) a = subst (λ (n : ℕ). Agrees text w (tally p.registers n body) (Ok next)) (next_one p.variables) a
  variable-taken p d (Err stop) a = refused-agrees text w _ _ stop a

  variable-agrees : (p : Progress X) → At-spot (λ q. body) p → At-spot (λ q. body) (variable_with judge text p)
  unfolding variable_with tallied too_much passes_at onward
  variable-agrees p a =
      one-agrees 537 128 p.variables p _ _ refl (ap (λ (c : Bool). c || false)) a
      (λ fits.
      let one = agrees-variable text w p.registers p.variables fits (replicate 40 0) (replicate 40 0) p.step a in
      variable-taken p _ _ (agrees-tok text w 315 (tally p.registers (suc p.variables) (piece one.0)) refl refl one.1 _ one.2))

  declaration_agrees : (p : Progress X) → At-spot (λ q. body) p → At-spot (λ q. body) (declaration_with judge text p)
  unfolding declaration_with
  declaration_agrees p a = by (eqb (seen_at text p.step).kind 529) refl
    where
      by : (b : Bool) → eqb (seen_at text p.step).kind 529 ≡ b → At-spot (λ q. body) (declaration_with judge text p)
      by true e = rw e (register-agrees p a)
      by false e = rw e (variable-agrees p a)

  -- { (declaration ;)+ }
  body-agrees : (p : Progress X) → At-spot (λ q. body) p → At-spot (λ q. body) (declarations_with judge text p)
  unfolding declarations_with more_declarations moved_to tallied too_much passes_at onward
  body-agrees p a =
      agrees-tok text w 381 (tally _ _ body) refl refl refl _
      (loop-keeps text (λ (q : Progress X). q.step) begins (declaration_with judge text) (λ q. At-spot (λ q. body) q) (λ q e i. declaration_agrees q i) (length text) (declaration_with judge text (moved_to p (fixed_after text 379 p.step)))
      (declaration_agrees (moved_to p (fixed_after text 379 p.step)) (agrees-tok text w 379 (tally p.registers p.variables body) refl refl refl p.step a)))

-- at the start all the tokens are to come
from_start : (text : List ℕ) → passed_in nothing_yet (tokens_at text 0) ≡ passed_at text
unfolding passed_at tokens_at
from_start text = let here : min 0 (length text) ≡ 0 = omega arith in ap (λ (i : ℕ). passed_in nothing_yet (tokens_from text i 0)) here

-- THE TEXT
pub sizes-kept : {X : Type 0} (judge : X → Declaration → X) (text : List ℕ) (x : X) → Kept (passed_at text) (reading_with judge text x).step
unfolding reading_with moved_to nothing_yet Agrees too_much passes_at
sizes-kept judge text x =
    agrees-end text (passed_at text) (tally judge text (passed_at text) _ _ body) refl _
    (body-agrees judge text (passed_at text) (parameters_with judge text (record { parameters = 0; registers = 0; variables = 0; made = x; step = Ok 0 }))
    (heading-agrees judge text (passed_at text) (record { parameters = 0; registers = 0; variables = 0; made = x; step = Ok 0 }) refl (from_start text)))
