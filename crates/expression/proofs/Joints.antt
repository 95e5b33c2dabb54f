-- Operators by their level. Assumes nothing.
use Prim.Native.Nat.{ℕ}
use mathlib.Core.Path.{◌≡◌, refl, ◌∙◌}
use mathlib.Core.Bool.{Bool, true, false, cond}
use lib.Dec.{eqb}
use Rattle.std.specs.Prelude.{Option, Some, None}
use Rattle.expression.specs.declared.Operator.{Operator}
use Rattle.expression.specs.Expression.{operator_of, level_of, of_level, joint_of}

-- what joins at some level is an operator
pub joint-is : (level sign : ℕ) {operator : Operator} → joint_of level sign ≡ Some operator → operator_of sign ≡ Some operator
joint-is level sign {operator} e = go (operator_of sign) refl e
  where
    go : (j : Option Operator) → operator_of sign ≡ j → of_level level j ≡ Some operator → operator_of sign ≡ Some operator
    go None is e = is ∙ e
    go (Some o) is e = is ∙ of (eqb (level_of o) level) e
      where
        of : (b : Bool) → cond b (Some o) None ≡ Some operator → Some o ≡ Some operator
        of true e = e
        of false e = cc
