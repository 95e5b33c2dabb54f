-- What a declaration that keeps the rules does to the tables: its own table gets one entry more, the others stay.
-- Assumes nothing.
use Prim.Native.Nat.{ℕ, ◌+◌, ◌*◌, ◌≤◌, ◌<◌}
use native.Mathlib.Omega.{arith}
use mathlib.Core.Path.{◌≡◌}
use mathlib.Core.List.{List}
use lib.ListN.{length}
use Rattle.std.specs.Prelude.{None}
use Rattle.syntax.specs.declared.register.Register.{Register}
use Rattle.syntax.specs.Parameter.{ParameterRead}
use Rattle.syntax.specs.Variable.{VariableRead}
use Rattle.syntax.specs.Text.{a_parameter, a_register, a_variable}
use Rattle.tables.specs.Tables.{count_of}
use Rattle.rules.specs.State.{State, with_parameters, with_registers, with_variables}
use Rattle.rules.specs.Words.{appended}
use Rattle.rules.specs.Names.{declared_before}
use Rattle.rules.specs.Parameter.{parameter_entry, added_parameter, judge_parameter}
use Rattle.rules.specs.Register.{register_entry, register_written, added_register, judge_register}
use Rattle.rules.specs.Variable.{first_pieces, second_pieces, list_of, early_fault, added_variable, judge_variable}
use Rattle.rules.proofs.JudgingLaws.{judged-kept}
use Rattle.rules.proofs.AppendLaws.{length-appended, appended-word, appended-added}
use Rattle.rules.proofs.ParameterShape as P
use Rattle.rules.proofs.RegisterShape as R
use Rattle.loader.specs.Judge.{judge}
use Rattle.loader.specs.Describes.{Holds, variable_part_entry, variable_entry}
use Rattle.loader.proofs.PieceCounts.{WellRead}
use Rattle.loader.proofs.ShapeLaws.{entry-word}
use Rattle.loader.proofs.VariableReady.{part-shaped, variable-length, variable-adds}
use Rattle.loader.proofs.MoreLaws.{More, more-none, more-one}

-- tables of their stated sizes, with room for what is declared
pub record Roomy (p r v : ℕ) (s : State) : Type 0 where
  pub parameters-long : length s.parameters ≡ 577
  pub registers-long : length s.registers ≡ 961
  pub variables-long : length s.variables ≡ 7553
  pub parameters-room : count_of s.parameters + p ≤ 16
  pub registers-room : count_of s.registers + r ≤ 64
  pub variables-room : count_of s.variables + v ≤ 128

-- so many entries more in each
pub record Grows (p r v : ℕ) (s t : State) : Type 0 where
  pub parameters : More 36 p s.parameters t.parameters
  pub registers : More 15 r s.registers t.registers
  pub variables : More 59 v s.variables t.variables

-- a table with one entry more, of as many words as an entry has
module _ (stride : ℕ) (t words : List ℕ) (whole : length words ≡ stride) (fits : stride * count_of t + 1 + stride ≤ length t) (few : count_of t < 4294967295) where
  appended-more : More stride 1 t (appended stride t words)
  appended-more = more-one stride t _ (appended-added stride t words (omega arith) few (omega arith)) (length-appended stride t words)

  appended-held : Holds stride (appended stride t words) (count_of t) words
  unfolding Holds
  appended-held k l = appended-word stride t words (omega arith) k (omega arith)

module _ (text : List ℕ) (s : State) where
  -- ---- a parameter
  module _ (d : ParameterRead) (sets : P.Sets d) (room : Roomy 1 0 0 s) (kept : (judge text s (a_parameter d)).fault ≡ None) where
    parameter-judged : judge text s (a_parameter d) ≡ added_parameter s d
    unfolding judge judge_parameter
    parameter-judged = (judged-kept s (declared_before text s d.parameter.place d.parameter.length) (added_parameter s d) kept).1

    parameter-fits : (36 * count_of s.parameters + 1 + 36 ≤ length s.parameters) × (count_of s.parameters < 4294967295)
    parameter-fits = (omega (arith, room.parameters-long, room.parameters-room), omega (arith, room.parameters-room))

    pub parameter-grows : Grows 1 0 0 s (judge text s (a_parameter d))
    unfolding added_parameter with_parameters
    parameter-grows =
        rw parameter-judged
        (record {
          parameters = appended-more 36 s.parameters (parameter_entry d) (P.entry-long d sets) parameter-fits.0 parameter-fits.1;
          registers = more-none 15 s.registers;
          variables = more-none 59 s.variables;
        })

    pub parameter-held : Holds 36 (judge text s (a_parameter d)).parameters (count_of s.parameters) (parameter_entry d)
    unfolding added_parameter with_parameters
    parameter-held =
        rw parameter-judged (appended-held 36 s.parameters (parameter_entry d) (P.entry-long d sets) parameter-fits.0 parameter-fits.1)

  -- ---- a register
  module _ (d : Register) (room : Roomy 0 1 0 s) (kept : (judge text s (a_register d)).fault ≡ None) where
    abbrev words : List ℕ
    words = register_entry text s.parameters d

    register_judged : (register_written text s d ≡ None) × (judge text s (a_register d) ≡ added_register text s d)
    unfolding judge judge_register
    register_judged = judged-kept s (register_written text s d) (added_register text s d) kept

    register-fits : (15 * count_of s.registers + 1 + 15 ≤ length s.registers) × (count_of s.registers < 4294967295)
    register-fits = (omega (arith, room.registers-long, room.registers-room), omega (arith, room.registers-room))

    pub register-grows : Grows 0 1 0 s (judge text s (a_register d))
    unfolding added_register with_registers
    register-grows =
        rw register_judged.1
        (record {
          parameters = more-none 36 s.parameters;
          registers = appended-more 15 s.registers words (R.entry-long text s d register_judged.0) register-fits.0 register-fits.1;
          variables = more-none 59 s.variables;
        })

    pub register-held : Holds 15 (judge text s (a_register d)).registers (count_of s.registers) words
    unfolding added_register with_registers
    register-held =
        rw register_judged.1 (appended-held 15 s.registers words (R.entry-long text s d register_judged.0) register-fits.0 register-fits.1)

  -- ---- a variable
  module _ (d : VariableRead) (w : WellRead d.variable) (room : Roomy 0 0 1 s) (kept : (judge text s (a_variable d)).fault ≡ None) where
    variable_judged : judge text s (a_variable d) ≡ added_variable text s d
    unfolding judge judge_variable
    variable_judged = (judged-kept s (early_fault text s d) (added_variable text s d) kept).1

    pub variable-grows : Grows 0 0 1 s (judge text s (a_variable d))
    unfolding added_variable with_variables
    variable-grows =
        rw variable_judged
        (record {
          parameters = more-none 36 s.parameters;
          registers = more-none 15 s.registers;
          variables = more-one 59 s.variables _ (variable-adds text s d w (omega (arith, room.variables-long)) (omega (arith, room.variables-room))) (variable-length text s d w);
        })

    pub variable-held : Holds 59 (judge text s (a_variable d)).variables (count_of s.variables) (variable_entry text s d)
    unfolding Holds variable_entry variable_part_entry added_variable with_variables
    variable-held k l =
        rw variable_judged
        (entry-word s.variables d.variable (first_pieces text s d) (second_pieces text s d) (list_of text s d 0) (list_of text s d 1)
        (part-shaped text s d w d.variable.rest.behaviours.read 0).1 (part-shaped text s d w d.variable.rest.behaviours.write 1).1
        (omega (arith, room.variables-long, room.variables-room)) k l)
