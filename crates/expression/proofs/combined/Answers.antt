use mir.Facts.{to_z-of_z}
use mathlib.Core.Path.{◌∙◌}
use Rattle.expression.specs.Value.{combined_by}
use Rattle.expression.proofs.Range.{within-if, within_fits, divided, zero-divisor, good-divisor, remainder-fits}
use Rattle.expression.proofs.combined.Goals as goal

pub returns-in-Sum : goal.returns-in-Sum
unfolding combined_by
returns-in-Sum c = let x = to_z-of_z c.ranges.left in let y = to_z-of_z c.ranges.right in within-if _ _ (rw (x, y) at c.checked_add.ensures) ∙ rw c.in-Sum.is

pub returns-in-Difference : goal.returns-in-Difference
unfolding combined_by
returns-in-Difference c = let x = to_z-of_z c.ranges.left in let y = to_z-of_z c.ranges.right in within-if _ _ (rw (x, y) at c.checked_sub.ensures) ∙ rw c.in-Difference.is

pub returns-in-Product : goal.returns-in-Product
unfolding combined_by
returns-in-Product c = let x = to_z-of_z c.ranges.left in let y = to_z-of_z c.ranges.right in within-if _ _ (rw (x, y) at c.checked_mul.ensures) ∙ rw c.in-Product.is

pub returns-in-Quotient : goal.returns-in-Quotient
unfolding combined_by
returns-in-Quotient c =
    let x = to_z-of_z c.ranges.left in
    let y = to_z-of_z c.ranges.right in
    divided c.args.left c.args.right c.ranges.right _ (rw (x, y) at c.checked_div.ensures) ∙ rw c.in-Quotient.is

pub returns-in-Remainder : goal.returns-in-Remainder
unfolding combined_by
returns-in-Remainder c = rw (c.in-Remainder.is, zero-divisor c.args.right c.ranges.right c.if-right-eq0.true)

pub returns-in-Remainder-2 : goal.returns-in-Remainder-2
unfolding combined_by
returns-in-Remainder-2 c =
    let x = to_z-of_z c.ranges.left in
    let y = to_z-of_z c.ranges.right in
    let is = rw (x, y) at c.wrapping_rem.ensures in
    let fits = remainder-fits c.args.left c.args.right c.ranges.left in
    rw (c.in-Remainder.is, good-divisor c.args.right c.if-right-eq0.false, within_fits _ fits, is, to_z-of_z fits)
