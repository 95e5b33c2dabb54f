use native.Mathlib.Omega.{arith}
use mathlib.Core.Path.{refl}
use Rattle.script.proofs.PatternLaws.{none-spelled, one_more_lem, all-spelled}
use Rattle.script.proofs.patterns.digits_of.Goals as goal

pub loop-i-init : goal.loop-i-init
loop-i-init c = none-spelled _ _ refl

pub bounds-spelled-i : goal.bounds-spelled-i
bounds-spelled-i c = omega (arith, c.loop-i.invariant.most)

pub loop-i-preserved : goal.loop-i-preserved
loop-i-preserved c = one_more_lem _ _ _ _ _ _ (omega (arith, c.loop-i-test.true)) c.loop-i.invariant c.figure.ensures

pub returns : goal.returns
returns c = all-spelled _ _ _ _ c.loop-i-test.false c.loop-i.invariant
