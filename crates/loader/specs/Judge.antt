-- Judging what a text declares, declaration by declaration: the device, each parameter, each register and variable, in
-- the text's order.
use Rattle.std.specs.Prelude.{ℕ, ◌+◌, Ok, List}
use Rattle.syntax.specs.Step.{Step}
use Rattle.syntax.specs.Text.{Declaration, a_device, a_parameter, a_register, a_variable, Progress}
use Rattle.loader.specs.declared.heading.Loading.{Loading}
use Rattle.rules.specs.declared.declared.Judging.{Judging}
use Rattle.rules.specs.Fault.{no_fault}
use Rattle.rules.specs.State.{State, state_of, unless_stopped}
use Rattle.rules.specs.Parameter.{judge_device, judge_parameter}
use Rattle.rules.specs.Register.{judge_register}
use Rattle.rules.specs.Variable.{judge_variable}

-- the rules of one declaration; after a first fault nothing more is judged
unfoldable pub judge : List ℕ → State → Declaration → State
judge text s (a_device d) = judge_device s d
judge text s (a_parameter d) = unless_stopped s (judge_parameter text s d)
judge text s (a_register d) = unless_stopped s (judge_register text s d)
judge text s (a_variable d) = unless_stopped s (judge_variable text s d)

-- how far loading has come, as the code holds it: the counts, the device, the fault and the step by value, the tables
-- lent
unfoldable pub progress_of : Loading → List ℕ → List ℕ → List ℕ → Progress State
progress_of l ps rs vs =
    record { parameters = l.parameters; registers = l.registers; variables = l.variables; made = state_of l.judging ps rs vs; step = l.step }

-- nothing is read yet
unfoldable pub at_start : Loading
at_start = record { parameters = 0; registers = 0; variables = 0; judging = record { place = 0; extent = 0; fault = no_fault }; step = Ok 0 }

-- one variable more, which ends at a step
abbrev pub variable_more : Loading → Judging → Step → Loading
variable_more l j s = record l { variables = l.variables + 1; judging = j; step = s }

-- the same, at another step
abbrev pub moved_by : Loading → Step → Loading
moved_by l s = record l { step = s }
