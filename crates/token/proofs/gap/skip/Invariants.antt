-- `token::gap::skip` meets its contract. Each loop's invariant says that the gap from `at` ends where the gap from here
-- does, for a reader that stands between tokens, in a line comment or in a block comment. Each turn takes one step of
-- the definition. Assumes nothing.
use Prim.Native.Nat.{◌≤◌, ◌-◌}
use mathlib.Core.Path.{◌≡◌}
use lib.ListN.{length}
use Rattle.token.specs.Gap.{gap_at, gap, line, block}
use Rattle.token.proofs.gap.skip.Given as goal

abbrev pub invariant-line : goal.invariant-line
invariant-line l = (l.initial.i ≤ l.i) × (gap_at l.text gap l.at ≡ gap_at l.text line l.i)

abbrev pub decreases-line : goal.decreases-line
decreases-line l = length l.text - l.i

abbrev pub invariant-block : goal.invariant-block
invariant-block l = (l.initial.i ≤ l.i) × (gap_at l.text gap l.at ≡ gap_at l.text (block l.opened) l.i)

abbrev pub decreases-block : goal.decreases-block
decreases-block l = length l.text - l.i

abbrev pub invariant-between : goal.invariant-between
invariant-between l = gap_at l.text gap l.at ≡ gap_at l.text gap l.i

abbrev pub decreases-between : goal.decreases-between
decreases-between l = length l.text - l.i
