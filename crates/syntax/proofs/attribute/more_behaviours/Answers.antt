use mathlib.Core.Path.{◌∙◌}
use Rattle.syntax.specs.Attribute.{behaviour_turn, more_behaviours}
use Rattle.syntax.proofs.LoopSteps.{sign-full, sign-end, sign-on}
use Rattle.syntax.proofs.attribute.more_behaviours.Goals as goal

pub returns-after-loop : goal.returns-after-loop
unfolding more_behaviours
returns-after-loop c = sign-full _ _ _ _ _ _ _ c.loop.invariant c.loop-test.false

pub returns-then-seen-ne-COMMA : goal.returns-then-seen-ne-COMMA
unfolding more_behaviours
returns-then-seen-ne-COMMA c = sign-end _ _ _ _ _ _ _ c.loop.invariant c.look-seen.ensures c.if-seen-ne-COMMA.true

pub loop-preserved : goal.loop-preserved
unfolding more_behaviours behaviour_turn
loop-preserved c =
    sign-on _ _ _ _ _ _ _ c.loop.invariant c.look-seen.ensures c.loop-test.true c.if-seen-ne-COMMA.false (c.behaviour_after-all.ensures ∙ rw c.look-seen.ensures)
