-- What the tables hold once a text is accepted: they describe the text, entry by entry.
-- `proofs/Describing.antt` shows it of every text that `load_of` accepts.
use Rattle.std.specs.Prelude.{ℕ, ◌+◌, ◌*◌, ◌≤◌, ◌<◌, ◌≡◌, List, ◌∷◌, ◌++◌, get_or}
use Rattle.syntax.specs.declared.register.Register.{Register}
use Rattle.syntax.specs.Parameter.{ParameterRead}
use Rattle.syntax.specs.Variable.{VariableRead}
use Rattle.syntax.specs.Text.{Declaration, a_parameter, a_register, a_variable}
use Rattle.tables.specs.Tables.{count_of}
use Rattle.tables.specs.View.{Tables}
use Rattle.rules.specs.State.{State}
use Rattle.rules.specs.Parameter.{parameter_entry}
use Rattle.rules.specs.Register.{register_entry}
use Rattle.rules.specs.Lists.{part_words}
use Rattle.rules.specs.Variable.{triggers, head_words, first_pieces, second_pieces, list_of}
use Rattle.loader.specs.Claim.{declared, tally, one_parameter, one_register, one_variable, standing}

-- entry number i of a table, whose entries have `stride` words, is these words
unfoldable pub Holds : ℕ → List ℕ → ℕ → List ℕ → Type 0
Holds stride table i words = (k : ℕ) → k < stride → get_or table (stride * i + 1 + k) 0 ≡ get_or words k 0

-- the words of one part of a variable: the registers of its pieces by their names
unfoldable pub variable_part_entry : List ℕ → State → VariableRead → ℕ → ℕ → List ℕ
variable_part_entry text s it own p =
    part_words it.variable (first_pieces text s it) (second_pieces text s it) (triggers it.variable.rest.behaviours own) (list_of text s it p)

-- name place, name length, kind, width, volatile; the read part, the write part
unfoldable pub variable_entry : List ℕ → State → VariableRead → List ℕ
variable_entry text s it =
    head_words it.variable ++ variable_part_entry text s it it.variable.rest.behaviours.read 0 ++
    variable_part_entry text s it it.variable.rest.behaviours.write 1

-- nothing but zeros in a table of `size` words behind its n entries
unfoldable pub Blank : ℕ → ℕ → List ℕ → ℕ → Type 0
Blank stride size table n = (k : ℕ) → stride * n + 1 ≤ k → k < size → get_or table k 0 ≡ 0

-- The counts are those declared. The i-th parameter, register and variable that the text declares is entry i, made from
-- its declaration and from what stands before it, where its names are found. All else is zero.
pub record Describes (text : List ℕ) (t : Tables) : Type 0 where
  pub parameters-counted : count_of t.parameters ≡ tally one_parameter (declared text)
  pub registers-counted : count_of t.registers ≡ tally one_register (declared text)
  pub variables-counted : count_of t.variables ≡ tally one_variable (declared text)
  pub parameters : (before after : List Declaration) (d : ParameterRead) → declared text ≡ before ++ a_parameter d ∷ after
      → Holds 36 t.parameters (tally one_parameter before) (parameter_entry d)
  pub registers : (before after : List Declaration) (d : Register) → declared text ≡ before ++ a_register d ∷ after
      → Holds 15 t.registers (tally one_register before) (register_entry text (standing text before).parameters d)
  pub variables : (before after : List Declaration) (d : VariableRead) → declared text ≡ before ++ a_variable d ∷ after
      → Holds 59 t.variables (tally one_variable before) (variable_entry text (standing text before) d)
  pub parameters-end : Blank 36 577 t.parameters (tally one_parameter (declared text))
  pub registers-end : Blank 15 961 t.registers (tally one_register (declared text))
  pub variables-end : Blank 59 7553 t.variables (tally one_variable (declared text))
