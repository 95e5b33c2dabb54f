-- What every declaration keeps, a reading keeps, whatever is made of the declarations: the walk over the readers, once.
-- Assumes nothing.
use Prim.Native.Nat.{ℕ, ◌<◌}
use mathlib.Core.Path.{◌≡◌, refl}
use mathlib.Core.Bool.{Bool, true, false}
use mathlib.Core.List.{List}
use lib.Dec.{eqb, leb}
use lib.ListN.{length, replicate}
use borrow.Author.Tests.{leb-false}
use Rattle.std.specs.Prelude.{Ok, Err}
use Rattle.syntax.specs.Step.{Step}
use Rattle.syntax.specs.declared.reader.Named.{Named}
use Rattle.syntax.specs.declared.register.Register.{Register}
use Rattle.syntax.specs.KindNames.{sign, name-kind, 'register', 'variable'}
use Rattle.syntax.specs.Limits.{most_parameters, most_registers, most_variables}
use Rattle.syntax.specs.Reader.{seen_at, extra_after}
use Rattle.syntax.specs.Parameter.{ParameterRead, parameter_after}
use Rattle.syntax.specs.Register.{register_after}
use Rattle.syntax.specs.Variable.{VariableRead, variable_after}
use Rattle.syntax.specs.Text.{Declaration, a_device, a_parameter, a_register, a_variable, Progress, begins, moved_to, counted, taken, head_with, parameter_with, more_parameters, register_with, variable_with, declaration_with, more_declarations, parameters_with, declarations_with}
use Rattle.syntax.proofs.LoopSteps.{loop-keeps}
use Rattle.rules.proofs.ParameterShape.{Sets, parameter-sets}
use Rattle.loader.proofs.PieceCounts.{WellRead, well-read}

module _ {X : Type 0} (judge : X → Declaration → X) (text : List ℕ) (I : Progress X → Type 0) (moves : (p : Progress X) (s : Step) → I p → I (moved_to p s)) where
  taken-keeps : (p : Progress X) (d : Declaration) (s : Step) → ((next : ℕ) → I (counted judge p d next)) → I p → I (taken judge p d s)
  unfolding taken
  taken-keeps p d (Ok next) f i = f next
  taken-keeps p d (Err stop) f i = moves p (Err stop) i

  -- ---- the first half of a text
  module _ (device : (p : Progress X) (d : Named) (next : ℕ) → I p → I (counted judge p (a_device d) next))
      (parameter : (p : Progress X) (d : ParameterRead) (next : ℕ) → p.parameters < 16 → Sets d → I p → I (counted judge p (a_parameter d) next)) where
    head_keeps : (p : Progress X) → I p → I (head_with judge text p)
    unfolding head_with
    head_keeps p i = taken-keeps p _ _ (λ next. device p _ next i) i

    parameter-keeps : (p : Progress X) → I p → I (parameter_with judge text p)
    unfolding parameter_with
    parameter-keeps p i = go (leb most_parameters p.parameters) refl
      where
        go : (b : Bool) → leb most_parameters p.parameters ≡ b → I (parameter_with judge text p)
        go true e = rw e (moves p (extra_after text name-kind p.step) i)
        go false e =
            rw e
            (taken-keeps p (a_parameter (parameter_after text (replicate 32 0) p.step)) _
            (λ next. parameter p (parameter_after text (replicate 32 0) p.step) next (leb-false most_parameters p.parameters e) (parameter-sets text p.step) i) i)

    pub parameters-keep : (p : Progress X) → I p → I (parameters_with judge text p)
    unfolding parameters_with more_parameters
    parameters-keep p i =
        moves _ _
        (loop-keeps text (λ q. q.step) (λ kind. eqb kind (sign ",")) (λ q. parameter_with judge text (moved_to q (seen_at text q.step).past)) I
        (λ q e k. parameter-keeps (moved_to q (seen_at text q.step).past) (moves q (seen_at text q.step).past k)) (length text) _
        (parameter-keeps _ (head_keeps p i)))

  -- ---- the second half
  module _ (register : (p : Progress X) (d : Register) (next : ℕ) → p.registers < 64 → I p → I (counted judge p (a_register d) next))
      (variable : (p : Progress X) (d : VariableRead) (next : ℕ) → p.variables < 128 → WellRead d.variable → I p → I (counted judge p (a_variable d) next)) where
    register-keeps : (p : Progress X) → I p → I (register_with judge text p)
    unfolding register_with
    register-keeps p i = go (leb most_registers p.registers) refl
      where
        go : (b : Bool) → leb most_registers p.registers ≡ b → I (register_with judge text p)
        go true e = rw e (moves p (extra_after text 'register' p.step) i)
        go false e = rw e (taken-keeps p _ _ (λ next. register p (register_after text p.step) next (leb-false most_registers p.registers e) i) i)

    variable-keeps : (p : Progress X) → I p → I (variable_with judge text p)
    unfolding variable_with
    variable-keeps p i = go (leb most_variables p.variables) refl
      where
        go : (b : Bool) → leb most_variables p.variables ≡ b → I (variable_with judge text p)
        go true e = rw e (moves p (extra_after text 'variable' p.step) i)
        go false e =
            rw e
            (taken-keeps p (a_variable (variable_after text (replicate 40 0) (replicate 40 0) p.step)) _
            (λ next. variable p (variable_after text (replicate 40 0) (replicate 40 0) p.step) next (leb-false most_variables p.variables e) (well-read text (replicate 40 0) (replicate 40 0) p.step) i) i)

    declaration_keeps : (p : Progress X) → I p → I (declaration_with judge text p)
    unfolding declaration_with
    declaration_keeps p i = go (eqb (seen_at text p.step).kind 'register') refl
      where
        go : (b : Bool) → eqb (seen_at text p.step).kind 'register' ≡ b → I (declaration_with judge text p)
        go true e = rw e (register-keeps p i)
        go false e = rw e (variable-keeps p i)

    pub declarations-keep : (p : Progress X) → I p → I (declarations_with judge text p)
    unfolding declarations_with more_declarations
    declarations-keep p i =
        moves _ _
        (loop-keeps text (λ q. q.step) begins (declaration_with judge text) I (λ q e k. declaration_keeps q k) (length text) _
        (declaration_keeps _ (moves p _ i)))
