-- "Declaration by declaration, lowest number first": the rules of a parameter, a register and a variable in their
-- order, each with its test.
-- `proofs/Lowest.antt` shows that judging names the first that is broken.
use Rattle.std.specs.Prelude.{ℕ, ◌≡◌, Bool, ◌&&◌, ◌||◌, not, cond, List, [], ◌∷◌, eqb, Option, Some, None}
use Rattle.rules.specs.declared.fault.Fault.{Fault}
use Rattle.syntax.specs.declared.register.Port.{Port}
use Rattle.syntax.specs.declared.register.Register.{Register}
use Rattle.syntax.specs.Parameter.{ParameterRead}
use Rattle.syntax.specs.Variable.{VariableRead}
use Rattle.tables.specs.Tables.{count_of, parameter_width, variable_part_of}
use Rattle.bits.specs.Widths.{is_width}
use Rattle.tables.specs.Rules.{ranges_fit, offset_in, place_taken, width_kept, part_maps, type_fits, volatile_fits, mapped_before, trigger_shared}
use Rattle.rules.specs.Fault.{is_fault}
use Rattle.rules.specs.State.{State}
use Rattle.rules.specs.Names.{name_of, is_nothing, index_of, is_declared}
use Rattle.rules.specs.Words.{appended}
use Rattle.rules.specs.Parameter.{parameter_entry}
use Rattle.rules.specs.Register.{is_natural, natural_of, is_paired, masks_kept, port_found, register_entry}
use Rattle.rules.specs.Lists.{unknown_in}
use Rattle.rules.specs.Variable.{bad_behaviours, list_of, variables_with}

-- a rule: whether it is broken, and its number
pub record Rule : Type 0 where
  pub broken : Bool
  pub number : ℕ

abbrev pub rule : Bool → ℕ → Rule
rule broken number = record { broken = broken; number = number }

-- the first that is broken, or 0
unfoldable pub first_of_rules : List Rule → ℕ
first_of_rules [] = 0
first_of_rules (r ∷ rest) = cond r.broken r.number (first_of_rules rest)

-- what judging names: the rule of this number, or none exactly where it is 0
abbrev pub NamesRule : Option Fault → ℕ → Type 0
NamesRule None number = number ≡ 0
NamesRule (Some fault) number = (fault.number ≡ number) × (number ≡ 0 → ⊥)

module _ (text : List ℕ) (s : State) where
  -- a parameter; `ps` are the parameters with its entry, number `i`
  unfoldable pub parameter_rules : ParameterRead → List Rule
  parameter_rules d =
      let ps : List ℕ = appended 36 s.parameters (parameter_entry d) in
      let i : ℕ = count_of s.parameters in
      rule (is_declared text s (name_of text d.parameter.place d.parameter.length)) 6 ∷
      rule (not (ranges_fit ps i)) 8 ∷
      rule (not (is_width (parameter_width ps i))) 12 ∷ []

  -- a port's name is no parameter's; its offset is bad, or not in the parameter's set
  unfoldable pub is_unknown : Port → Bool
  is_unknown p = is_nothing (port_found text s.parameters p)

  unfoldable pub is_misplaced : Port → Bool
  is_misplaced p = not (is_natural p.worth && offset_in s.parameters (index_of (port_found text s.parameters p)) (natural_of p.worth))

  -- a register; `rs` are the registers with its entry, number `i`
  unfoldable pub register_rules : Register → List Rule
  register_rules r =
      let rs : List ℕ = appended 15 s.registers (register_entry text s.parameters r) in
      let i : ℕ = count_of s.registers in
      rule (is_declared text s (name_of text r.place r.length)) 6 ∷
      rule (is_unknown r.first || (r.two && is_unknown r.second)) 7 ∷
      rule (is_misplaced r.first || (r.two && is_misplaced r.second)) 8 ∷
      rule (not (is_paired r && masks_kept r)) 9 ∷
      rule (place_taken rs 0 i || place_taken rs 1 i) 10 ∷
      rule (not (width_kept s.parameters rs i)) 12 ∷ []

  -- a variable; `vs` are the variables with its entry, number `v`
  unfoldable pub variable_rules : VariableRead → List Rule
  variable_rules it =
      let vs : List ℕ = variables_with text s it in
      let v : ℕ = count_of s.variables in
      rule (is_declared text s (name_of text it.variable.place it.variable.length)) 6 ∷
      rule (is_fault (unknown_in text s.registers it.first it.variable.count) || is_fault (unknown_in text s.registers it.second it.variable.rest.count)) 7 ∷
      rule ((eqb (list_of text s it 0) 0 && eqb (list_of text s it 1) 0) || not (part_maps s.registers 0 (variable_part_of vs 0 v) && part_maps s.registers 1 (variable_part_of vs 1 v))) 11 ∷
      rule (not (type_fits vs v)) 12 ∷
      rule (not (volatile_fits vs v) || bad_behaviours it.variable.rest.behaviours (list_of text s it 0) (list_of text s it 1)) 13 ∷
      rule (mapped_before vs 0 v || mapped_before vs 1 v) 14 ∷
      rule (trigger_shared vs 0 v || trigger_shared vs 1 v) 15 ∷ []
