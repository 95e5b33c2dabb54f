-- `script::words::run_end` meets its contract. Assumes nothing.
use mathlib.Core.Path.{refl}
use Rattle.token.proofs.RunSteps.{run_on, run-stopped, run-over-end}
use Rattle.script.proofs.words.run_end.Goals as goal

pub returns-then-not-passes : goal.returns-then-not-passes
returns-then-not-passes g c test tells =
    run-stopped test _ _ (c.loop-i.invariant test tells) c.loop-i-test.true (tells _ _ c.passes.ensures) c.if-not-passes.true

pub loop-i-preserved : goal.loop-i-preserved
loop-i-preserved g c test tells =
    run_on test _ _ (c.loop-i.invariant test tells) c.loop-i-test.true (tells _ _ c.passes.ensures) c.if-not-passes.false

pub returns : goal.returns
returns g c test tells =
    run-over-end test _ _ (c.loop-i.invariant test tells) _ _ refl c.loop-i-test.false c.loop-i.auto.i-end c.max.ensures
