-- `replay::run` ends.
use native.Mathlib.Omega.{arith}
use Rattle.script.proofs.WordLaws.{line-within}
use Rattle.replay.proofs.run.Goals as goal

pub overflow_add-at : goal.overflow_add-at
overflow_add-at g c = record { fits = omega (arith, (line-within _ _ _ c.line_end.ensures c.loop-at-test.true).1) }

pub loop-at-smaller : goal.loop-at-smaller
loop-at-smaller g c = omega (arith, c.loop-at-test.true, (line-within _ _ _ c.line_end.ensures c.loop-at-test.true).0)
