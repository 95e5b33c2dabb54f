-- The whole text: `device name ( param (, param)* ) { (declaration ;)+ }` and then the end. It is read once, whatever a
-- caller makes of what it declares.
use Rattle.std.specs.Prelude.{ℕ, ◌+◌, Bool, ◌||◌, cond, List, [], ◌∷◌, ◌++◌, eqb, leb, length, replicate, Ok, Err}
use Rattle.syntax.specs.Step.{Step}
use Rattle.syntax.specs.declared.reader.Named.{Named}
use Rattle.syntax.specs.declared.register.Register.{Register}
use Rattle.syntax.specs.declared.text.Outline.{Outline}
use Rattle.syntax.specs.Limits.{most_parameters, most_registers, most_variables}
use Rattle.syntax.specs.KindNames.{sign, name-kind, 'register', 'variable', end-kind}
use Rattle.syntax.specs.Reader.{seen_at, fixed_after, extra_after}
use Rattle.syntax.specs.Heading.{head_after}
use Rattle.syntax.specs.Parameter.{ParameterRead, parameter_after}
use Rattle.syntax.specs.Register.{register_after}
use Rattle.syntax.specs.Variable.{VariableRead, variable_after}
use Rattle.syntax.specs.Loop.{loop_with}

-- What a text declares, in its order: the device, each parameter, each register and variable; with the tables that
-- their ranges and pieces stand in.
pub data Declaration : Type 0 where
  a_device : Named → Declaration
  a_parameter : ParameterRead → Declaration
  a_register : Register → Declaration
  a_variable : VariableRead → Declaration

-- How far a text has been read: how much it declares so far, what has been made of that, and the step past it.
pub record Progress (X : Type 0) : Type 0 where
  pub parameters : ℕ
  pub registers : ℕ
  pub variables : ℕ
  pub made : X
  pub step : Step

-- a register or a variable begins
unfoldable pub begins : ℕ → Bool
begins kind = eqb kind 'register' || eqb kind 'variable'

unfoldable pub moved_to : {X : Type 0} → Progress X → Step → Progress X
moved_to p s = record { parameters = p.parameters; registers = p.registers; variables = p.variables; made = p.made; step = s }

-- `judge` makes something of each declaration, in order, once it is whole.
module _ {X : Type 0} (judge : X → Declaration → X) where
  -- one more declaration, which ends at `next`
  unfoldable pub counted : Progress X → Declaration → ℕ → Progress X
  counted p (a_device d) next =
      record { parameters = p.parameters; registers = p.registers; variables = p.variables; made = judge p.made (a_device d); step = Ok next }
  counted p (a_parameter d) next =
      record { parameters = p.parameters + 1; registers = p.registers; variables = p.variables; made = judge p.made (a_parameter d); step = Ok next }
  counted p (a_register d) next =
      record { parameters = p.parameters; registers = p.registers + 1; variables = p.variables; made = judge p.made (a_register d); step = Ok next }
  counted p (a_variable d) next =
      record { parameters = p.parameters; registers = p.registers; variables = p.variables + 1; made = judge p.made (a_variable d); step = Ok next }

  -- a declaration counts once it is whole; a refusal leaves all as it was
  unfoldable pub taken : Progress X → Declaration → Step → Progress X
  taken p d (Ok next) = counted p d next
  taken p d (Err refusal) = moved_to p (Err refusal)

  module _ (text : List ℕ) where
    -- device name (
    unfoldable pub head_with : Progress X → Progress X
    head_with p =
        let head : Named = head_after text p.step in
        taken p (a_device head) head.step

    -- a parameter, with room for sixteen ranges of two words; one too many is refused at its name
    unfoldable pub parameter_with : Progress X → Progress X
    parameter_with p =
        let one : ParameterRead = parameter_after text (replicate 32 0) p.step in
        cond (leb most_parameters p.parameters) (moved_to p (extra_after text name-kind p.step))
        (taken p (a_parameter one) one.parameter.step)

    -- (, param)*
    unfoldable pub more_parameters : ℕ → Progress X → Progress X
    more_parameters = loop_with text (λ p. p.step) (λ kind. eqb kind (sign ",")) (λ p. parameter_with (moved_to p (seen_at text p.step).past))

    -- register ;
    unfoldable pub register_with : Progress X → Progress X
    register_with p =
        let one : Register = register_after text p.step in
        cond (leb most_registers p.registers) (moved_to p (extra_after text 'register' p.step))
        (taken p (a_register one) (fixed_after text (sign ";") one.step))

    -- variable ;  with room for eight pieces of five words in each list
    unfoldable pub variable_with : Progress X → Progress X
    variable_with p =
        let one : VariableRead = variable_after text (replicate 40 0) (replicate 40 0) p.step in
        cond (leb most_variables p.variables) (moved_to p (extra_after text 'variable' p.step))
        (taken p (a_variable one) (fixed_after text (sign ";") one.variable.step))

    -- a declaration ; by its first word
    unfoldable pub declaration_with : Progress X → Progress X
    declaration_with p = cond (eqb (seen_at text p.step).kind 'register') (register_with p) (variable_with p)

    -- (declaration ;)*
    unfoldable pub more_declarations : ℕ → Progress X → Progress X
    more_declarations = loop_with text (λ p. p.step) begins declaration_with

    -- the head, then param (, param)* )
    unfoldable pub parameters_with : Progress X → Progress X
    parameters_with p =
        let all : Progress X = more_parameters (length text) (parameter_with (head_with p)) in
        moved_to all (fixed_after text (sign ")") all.step)

    -- { (declaration ;)+ }
    unfoldable pub declarations_with : Progress X → Progress X
    declarations_with p =
        let all : Progress X = more_declarations (length text) (declaration_with (moved_to p (fixed_after text (sign "{") p.step))) in
        moved_to all (fixed_after text (sign "}") all.step)

    -- THE WHOLE TEXT, from `x` on: it reads where its step is `Ok`.
    unfoldable pub reading_with : X → Progress X
    reading_with x =
        let all : Progress X = declarations_with (parameters_with (record { parameters = 0; registers = 0; variables = 0; made = x; step = Ok 0 })) in
        moved_to all (fixed_after text end-kind all.step)

-- what a text declares, as a list
unfoldable pub listed : List Declaration → Declaration → List Declaration
listed ds d = ds ++ d ∷ []

unfoldable pub reading : List ℕ → Progress (List Declaration)
reading text = reading_with listed text []

-- something else made of what was read
unfoldable pub remade : {X Y : Type 0} → (X → Y) → Progress X → Progress Y
remade f p = record { parameters = p.parameters; registers = p.registers; variables = p.variables; made = f p.made; step = p.step }

-- the counts and the step alone
unfoldable pub outlined : {X : Type 0} → Progress X → Outline
outlined p = record { parameters = p.parameters; registers = p.registers; variables = p.variables; step = p.step }

-- the reading alone, with nothing made
unfoldable pub idle : Unit {0} → Declaration → Unit {0}
idle x d = tt

unfoldable pub bare : Outline → Progress (Unit {0})
bare o = record { parameters = o.parameters; registers = o.registers; variables = o.variables; made = tt; step = o.step }
