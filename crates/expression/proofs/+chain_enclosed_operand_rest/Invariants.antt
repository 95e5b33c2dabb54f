-- The measures of the cycle {chain, enclosed, operand, rest}, lexicographic: the depth, and then the level. An operand
-- of a depth comes below every chain of that depth, and above whatever a parenthesis of a lesser one encloses. The
-- loop's invariant: the whole chain is what is left to read after what was read. Assumes nothing.
use Rattle.std.proofs.Common.{◌≡◌, ◌+◌, ◌-◌, ◌*◌, length}
use Rattle.expression.specs.Expression.{rest_at}
use Rattle.expression.proofs.+chain_enclosed_operand_rest.Given as goal

abbrev pub decreases-chain : goal.decreases-chain
decreases-chain l = 8 * l.depth + 1 + 2 * l.level

abbrev pub decreases-enclosed : goal.decreases-enclosed
decreases-enclosed l = 8 * l.depth + 6

abbrev pub decreases-operand : goal.decreases-operand
decreases-operand l = 8 * l.depth

abbrev pub decreases-rest : goal.decreases-rest
decreases-rest l = 8 * l.depth + 2 * l.level

abbrev pub invariant-rest-loop-operator : goal.invariant-rest-loop-operator
invariant-rest-loop-operator l = rest_at l.text l.depth l.level l.initial.worth l.initial.place ≡ rest_at l.text l.depth l.level l.worth l.place

abbrev pub decreases-rest-loop-operator : goal.decreases-rest-loop-operator
decreases-rest-loop-operator l = length l.text - l.place
