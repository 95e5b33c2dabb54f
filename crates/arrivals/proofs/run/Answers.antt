-- `arrivals::run` ends: each turn takes a piece or a line.
use native.Mathlib.Omega.{arith}
use Rattle.script.proofs.WordLaws.{line-within}
use Rattle.arrivals.proofs.run.Goals as goal

pub slice_bounds-line-count : goal.slice_bounds-line-count
slice_bounds-line-count g c = (line-within _ _ _ c.line_end-to.ensures c.loop-at-test.true).0

pub slice_bounds-line-start : goal.slice_bounds-line-start
slice_bounds-line-start g c = (line-within _ _ _ c.line_end-to.ensures c.loop-at-test.true).0

pub slice_bounds-line-end : goal.slice_bounds-line-end
slice_bounds-line-end g c = (line-within _ _ _ c.line_end-to.ensures c.loop-at-test.true).1

pub loop-at-smaller : goal.loop-at-smaller
loop-at-smaller g c = omega (arith, c.loop-at-test.true, (line-within _ _ _ c.line_end-to.ensures c.loop-at-test.true).0)
