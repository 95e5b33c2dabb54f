-- How far the judging of declarations has come.
use Rattle.std.specs.Prelude.{cond, ℕ, List, Option}
use Rattle.rules.specs.declared.fault.Fault.{Fault}
use Rattle.rules.specs.Fault.{is_fault}
use Rattle.rules.specs.declared.declared.Judging.{Judging}
use Rattle.rules.specs.declared.declared.Known.{Known}

-- the device's name (its place and length), the tables so far, and the first rule broken, if one is. The first rule
-- broken decides.
pub record State : Type 0 where
  pub place : ℕ
  pub extent : ℕ
  pub parameters : List ℕ
  pub registers : List ℕ
  pub variables : List ℕ
  pub fault : Option Fault

-- the state as the code holds it: the device and the fault by value, the tables lent
unfoldable pub state_of : Judging → List ℕ → List ℕ → List ℕ → State
state_of j parameters registers variables =
    record { place = j.place; extent = j.extent; parameters = parameters; registers = registers; variables = variables; fault = j.fault }

-- the same, of what is declared so far
abbrev pub state_in : Known → State
state_in k = state_of k.judging k.parameters.now k.registers.now k.variables.now

-- a state with a fault stays as it is
unfoldable pub unless_stopped : State → State → State
unless_stopped s next = cond (is_fault s.fault) s next

-- the same tables, with a fault
unfoldable pub stopped : State → Option Fault → State
stopped s f =
    record { place = s.place; extent = s.extent; parameters = s.parameters; registers = s.registers; variables = s.variables; fault = f }

-- what is broken before there is an entry stops the judging; else the state with the entry says what comes of it
unfoldable pub unless_broken : State → Option Fault → State → State
unless_broken s before entered = cond (is_fault before) (stopped s before) entered

-- with other parameters, registers or variables, and what the rules say of them
unfoldable pub with_parameters : State → List ℕ → Option Fault → State
with_parameters s table f =
    record { place = s.place; extent = s.extent; parameters = table; registers = s.registers; variables = s.variables; fault = f }

unfoldable pub with_registers : State → List ℕ → Option Fault → State
with_registers s table f =
    record { place = s.place; extent = s.extent; parameters = s.parameters; registers = table; variables = s.variables; fault = f }

unfoldable pub with_variables : State → List ℕ → Option Fault → State
with_variables s table f =
    record { place = s.place; extent = s.extent; parameters = s.parameters; registers = s.registers; variables = table; fault = f }
