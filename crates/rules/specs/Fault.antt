-- Broken rules, and the order in which they are named: none, or the rule's number and the place that is named with it.
use Rattle.std.specs.Prelude.{ℕ, Bool, not, cond, eqb, Option, Some, None}
use Rattle.std.specs.Bool.{then_some}
use Rattle.std.specs.Option.{is_some, option_or}
use Rattle.rules.specs.declared.fault.Fault.{Fault}

-- no rule is broken
abbrev pub no_fault : Option Fault
no_fault = None

-- the rule of this number is broken at this place, if the test says so
unfoldable pub fault_if : Bool → ℕ → ℕ → Option Fault
fault_if broken number place = then_some broken (record { number = number; place = place })

-- the rule of this number is broken at this place; 0 is no rule's
unfoldable pub fault_of : ℕ → ℕ → Option Fault
fault_of number place = fault_if (not (eqb number 0)) number place

-- a fault that counts only where the test holds
unfoldable pub only : Bool → Option Fault → Option Fault
only test fault = cond test fault no_fault

abbrev pub is_fault : Option Fault → Bool
is_fault fault = is_some fault

-- the first of two that is one: `or_else a (or_else b c)` names rules in the order in which they are listed
unfoldable pub or_else : Option Fault → Option Fault → Option Fault
or_else first second = option_or first second

-- the number of the rule, 0 where none is broken
abbrev pub number_in : Option Fault → ℕ
number_in None = 0
number_in (Some fault) = fault.number
