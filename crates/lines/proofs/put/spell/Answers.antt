-- `lines::put::spell` meets its contract.
use native.Mathlib.Omega.{arith}
use mathlib.Core.Path.{refl, ◌∙◌}
use Rattle.lines.proofs.LineLaws.{spelling-none, spelling-more, spelling-all}
use Rattle.lines.proofs.put.spell.Goals as goal

pub loop-rest-init : goal.loop-rest-init
loop-rest-init c = (spelling-none _ _ c.requires, refl)

pub overflow_sub-i : goal.overflow_sub-i
overflow_sub-i c = omega (arith, c.loop-rest.invariant.0.some)

pub loop-rest-smaller : goal.loop-rest-smaller
loop-rest-smaller c = omega (arith, c.loop-rest.invariant.0.some)

pub loop-rest-preserved : goal.loop-rest-preserved
loop-rest-preserved c = (spelling-more c.loop-rest.invariant.0 c.loop-rest-test.true c.put.ensures, c.put.auto.out ∙ c.loop-rest.invariant.1)

pub overflow_sub-i-2 : goal.overflow_sub-i-2
overflow_sub-i-2 c = omega (arith, c.loop-rest.invariant.0.some)

pub shape_of-digits : goal.shape_of-digits
shape_of-digits c = c.put-2.auto.out ∙ c.loop-rest.invariant.1

pub returns : goal.returns
returns c = spelling-all c.loop-rest.invariant.0 c.loop-rest-test.false c.put-2.ensures
