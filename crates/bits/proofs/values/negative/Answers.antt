-- `bits::values::negative` meets its contract.
use mathlib.Core.Path.{◌∙◌, sym, ap, subst}
use native.Mathlib.Omega.{arith}
use lib.IntN.{ℤ}
use mir.Syntax.{w64}
use mir.Val.{SFits, to_z, of_z}
use Rattle.bits.proofs.Signed.{minus_one, negative-read}
use Rattle.bits.proofs.values.negative.Goals as goal

pub overflow_sub-result : goal.overflow_sub-result
overflow_sub-result c = subst (λ (y : ℤ). SFits w64 y) (sym (minus_one c.args.k (omega arith))) (record { sfits = omega arith })

pub returns : goal.returns
returns c = ap (λ (y : ℤ). to_z w64 (of_z w64 y)) (minus_one c.args.k (omega arith)) ∙ negative-read c.args.k (omega arith)
