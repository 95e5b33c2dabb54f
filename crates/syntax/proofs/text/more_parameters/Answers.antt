use mathlib.Core.Path.{ap}
use Rattle.syntax.specs.Text.{moved_to, bare, more_parameters, outlined}
use Rattle.syntax.proofs.LoopSteps.{sign-full, sign-end, sign-on}
use Rattle.syntax.proofs.TextSteps.{parameter-turn}
use Rattle.syntax.proofs.text.more_parameters.Goals as goal

pub returns-after-loop : goal.returns-after-loop
unfolding more_parameters bare outlined
returns-after-loop c = ap outlined (sign-full _ _ _ _ _ _ _ c.loop.invariant c.loop-test.false)

pub returns-then-seen-ne-COMMA : goal.returns-then-seen-ne-COMMA
unfolding more_parameters bare outlined
returns-then-seen-ne-COMMA c = ap outlined (sign-end _ _ _ _ _ _ _ c.loop.invariant c.look-seen.ensures c.if-seen-ne-COMMA.true)

pub loop-preserved : goal.loop-preserved
unfolding more_parameters moved_to bare outlined
loop-preserved c =
    sign-on _ _ _ _ _ _ _ c.loop.invariant c.look-seen.ensures c.loop-test.true c.if-seen-ne-COMMA.false (parameter-turn _ _ c.look-seen.ensures c.parameter_next-all.ensures)
