-- `details::ranges::depth_of` meets its contract.
use borrow.Author.Tests.{eq-eqb, ne_eqb}
use Rattle.details.proofs.ranges.depth_of.Goals as goal

pub returns-then-kind-eq1 : goal.returns-then-kind-eq1
returns-then-kind-eq1 c = rw (eq-eqb _ _ c.if-kind-eq1.true, c.power-whole.ensures)

pub returns-else-kind-eq1 : goal.returns-else-kind-eq1
returns-else-kind-eq1 c = rw (ne_eqb _ _ c.if-kind-eq1.false)
