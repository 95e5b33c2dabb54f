-- `bits::values::decode` meets its contract.
use Prim.Native.Nat.{◌-◌, ◌<◌, ◌^◌}
use mathlib.Core.Path.{◌∙◌, ap}
use lib.IntN.{ℤ}
use mir.Syntax.{w64}
use mir.Val.{to_z, of_z}
use lib.Pow.{pow_mono}
use native.Mathlib.Omega.{arith}
use borrow.Author.Tests.{lt-ltb, le-ltb}
use Rattle.bits.specs.Values.{decode}
use Rattle.bits.proofs.Signed.{natural-read, negative-read}
use Rattle.bits.proofs.values.decode.Goals as goal

pub overflow_cast-result : goal.overflow_cast-result
overflow_cast-result c = record { sfits = omega (arith, pow_mono c.requires.0) }

pub negative-requires : goal.negative-requires
negative-requires c = omega (arith, c.power.ensures, pow_mono c.requires.0)

pub returns-then-pattern-limit : goal.returns-then-pattern-limit
unfolding decode
returns-then-pattern-limit c =
    let a = c.args in
    let small : a.pattern < 2 ^ 63 = omega (arith, pow_mono c.requires.0) in
    natural-read a.pattern small ∙ rw (lt-ltb _ _ (rw c.limit.ensures at c.if-pattern-limit.true))

pub returns-else-pattern-limit : goal.returns-else-pattern-limit
unfolding decode
returns-else-pattern-limit c =
    let a = c.args in
    let small : c.power.result - 1 - a.pattern < 2 ^ 63 = omega (arith, c.power.ensures, pow_mono c.requires.0) in
    ap (λ (y : ℤ). to_z w64 (of_z w64 y)) c.negative.ensures ∙ negative-read _ small
    ∙ rw (le-ltb _ _ (rw c.limit.ensures at c.if-pattern-limit.false), c.power.ensures)
