-- `loader::heading::more_parameters` meets its contract.
use mathlib.Core.Path.{refl}
use Rattle.syntax.specs.Text.{more_parameters}
use Rattle.syntax.proofs.LoopSteps.{sign-full, sign-end, sign-on}
use Rattle.loader.specs.Judge.{progress_of}
use Rattle.loader.proofs.LoadSteps.{parameter-turn}
use Rattle.loader.proofs.heading.more_parameters.Goals as goal

pub returns-after-loop : goal.returns-after-loop
unfolding more_parameters progress_of
returns-after-loop c = sign-full _ _ _ _ _ _ _ c.loop.invariant c.loop-test.false

pub returns-then-seen-ne-COMMA : goal.returns-then-seen-ne-COMMA
unfolding more_parameters progress_of
returns-then-seen-ne-COMMA c = sign-end _ _ _ _ _ _ _ c.loop.invariant c.look-seen.ensures c.if-seen-ne-COMMA.true

pub loop-preserved : goal.loop-preserved
unfolding more_parameters progress_of
loop-preserved c =
    sign-on _ _ _ _ _ _ _ c.loop.invariant c.look-seen.ensures c.loop-test.true c.if-seen-ne-COMMA.false
    (parameter-turn _ c.loop.all _ _ _ _ _ c.look-seen.ensures refl c.parameter_next-all.ensures)
