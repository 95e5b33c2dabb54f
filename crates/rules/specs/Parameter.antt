-- Judging the device and a parameter: rules 6, 8 and 12, and the entry that it gets.
use Rattle.std.specs.Prelude.{ℕ, List, ◌∷◌}
use Rattle.syntax.specs.declared.reader.Named.{Named}
use Rattle.syntax.specs.Parameter.{ParameterRead}
use Rattle.tables.specs.Tables.{count_of}
use Rattle.tables.specs.Rules.{parameter_fault}
use Rattle.rules.specs.Fault.{fault_of}
use Rattle.rules.specs.State.{State, unless_broken, with_parameters}
use Rattle.rules.specs.Names.{declared_before}
use Rattle.rules.specs.Words.{word_of, appended}

-- the device only gives its name
unfoldable pub judge_device : State → Named → State
judge_device s d =
    record { place = d.place; extent = d.length; parameters = s.parameters; registers = s.registers; variables = s.variables; fault = s.fault }

-- name place, name length, width, count of ranges, and the 32 words of the ranges
unfoldable pub parameter_entry : ParameterRead → List ℕ
parameter_entry d = word_of d.parameter.place ∷ word_of d.parameter.length ∷ d.parameter.width ∷ word_of d.parameter.ranges ∷ d.table

-- the entry is written, then judged by 8 and 12
unfoldable pub added_parameter : State → ParameterRead → State
added_parameter s d =
    let table : List ℕ = appended 36 s.parameters (parameter_entry d) in
    with_parameters s table (fault_of (parameter_fault table (count_of s.parameters)) d.parameter.place)

-- 6, then 8 and 12
unfoldable pub judge_parameter : List ℕ → State → ParameterRead → State
judge_parameter text s d = unless_broken s (declared_before text s d.parameter.place d.parameter.length) (added_parameter s d)
