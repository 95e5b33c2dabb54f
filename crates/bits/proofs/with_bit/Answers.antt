-- `bits::with_bit` meets its contract.
use native.Mathlib.Nat.{one-mul, zero-mul}
use lib.Pow.{pow_mono}
use native.Mathlib.Omega.{arith}
use Rattle.bits.proofs.with_bit.Goals as goal

pub overflow_add-result : goal.overflow_add-result
overflow_add-result c = omega (arith, c.power.ensures, pow_mono c.requires.0, c.requires.1)

pub returns-then-on : goal.returns-then-on
returns-then-on c = rw (c.if-on.true, c.power.ensures, one-mul)

pub returns-else-on : goal.returns-else-on
returns-else-on c = rw (c.if-on.false, zero-mul) (omega arith)
