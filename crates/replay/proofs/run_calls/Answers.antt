-- `replay::run_calls` ends.
use native.Mathlib.Omega.{arith}
use Rattle.script.proofs.WordLaws.{line-within}
use Rattle.replay.proofs.run_calls.Goals as goal

pub slice_bounds-hear-start : goal.slice_bounds-hear-start
slice_bounds-hear-start g c = (line-within _ _ _ c.line_end-end.ensures c.loop-at-test.true).0

pub slice_bounds-hear-count : goal.slice_bounds-hear-count
slice_bounds-hear-count g c = (line-within _ _ _ c.line_end-end.ensures c.loop-at-test.true).0

pub slice_bounds-hear-end : goal.slice_bounds-hear-end
slice_bounds-hear-end g c = (line-within _ _ _ c.line_end-end.ensures c.loop-at-test.true).1

pub overflow_add-at : goal.overflow_add-at
overflow_add-at g c = record { fits = omega (arith, (line-within _ _ _ c.line_end-end.ensures c.loop-at-test.true).1) }

pub loop-at-smaller : goal.loop-at-smaller
loop-at-smaller g c = omega (arith, c.loop-at-test.true, (line-within _ _ _ c.line_end-end.ensures c.loop-at-test.true).0)

pub loop-at-preserved : goal.loop-at-preserved
loop-at-preserved g c = omega (arith, c.loop-at.invariant, (line-within _ _ _ c.line_end-end.ensures c.loop-at-test.true).0)
