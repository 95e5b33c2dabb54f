use native.Mathlib.Omega.{arith}
use Rattle.syntax.specs.Parameter.{more_ranges}
use Rattle.syntax.proofs.ItemSteps.{items-full, items-end, items-on}
use Rattle.syntax.proofs.parameter.more_ranges.Goals as goal

pub returns-after-loop-clause-answered : goal.returns-after-loop-clause-answered
unfolding more_ranges
returns-after-loop-clause-answered c = (items-full _ _ _ _ _ _ _ c.loop.invariant.1 c.loop-test.false).0

pub returns-after-loop-clause-stored : goal.returns-after-loop-clause-stored
unfolding more_ranges
returns-after-loop-clause-stored c = (items-full _ _ _ _ _ _ _ c.loop.invariant.1 c.loop-test.false).1

pub returns-then-seen-ne-COMMA-clause-answered : goal.returns-then-seen-ne-COMMA-clause-answered
unfolding more_ranges
returns-then-seen-ne-COMMA-clause-answered c = (items-end _ _ _ _ _ _ _ c.loop.invariant.1 c.look-seen.ensures c.if-seen-ne-COMMA.true).0

pub returns-then-seen-ne-COMMA-clause-stored : goal.returns-then-seen-ne-COMMA-clause-stored
unfolding more_ranges
returns-then-seen-ne-COMMA-clause-stored c = (items-end _ _ _ _ _ _ _ c.loop.invariant.1 c.look-seen.ensures c.if-seen-ne-COMMA.true).1

pub loop-preserved : goal.loop-preserved
unfolding more_ranges
loop-preserved c = (
  omega arith,
  items-on _ _ _ _ _ _ _ c.loop.invariant.1 c.look-seen.ensures c.loop-test.true c.if-seen-ne-COMMA.false c.next_range-all.ensures.answered c.next_range-all.ensures.stored,
)
