-- `bits::values::encode_negative` meets its contract.
use Rattle.bits.specs.Values.{encoded, in_range, encode}
use Prim.Native.Nat.{◌<◌}
use Rattle.bits.proofs.ValueLaws.{limit-most}
use lib.Dec.{eqb}
use lib.Pow.{pow_pos}
use native.Mathlib.Omega.{arith}
use borrow.Author.Tests.{ltb-true}
use Rattle.logic.proofs.Tests.{both}
use Rattle.bits.proofs.values.encode_negative.Goals as goal

pub overflow_sub-result : goal.overflow_sub-result
overflow_sub-result c = omega (arith, c.power.ensures, pow_pos c.args.width)

pub overflow_sub-result-then-kind-m : goal.overflow_sub-result-then-kind-m
overflow_sub-result-then-kind-m c =
    let a = c.args in
    let most = limit-most a.kind a.width in
    let small : a.m < c.limit.result = ltb-true _ _ (both (eqb a.kind 1) _ c.if-kind-m.true).1 in
    omega (arith, c.power.ensures, c.limit.ensures)

pub returns-then-kind-m : goal.returns-then-kind-m
unfolding encoded in_range encode
returns-then-kind-m c = rw (rw c.limit.ensures at c.if-kind-m.true, c.power.ensures)

pub returns-else-kind-m : goal.returns-else-kind-m
unfolding encoded in_range encode
returns-else-kind-m c = rw (rw c.limit.ensures at c.if-kind-m.false)
