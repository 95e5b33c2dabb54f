use mathlib.Core.Path.{◌∙◌}
use Rattle.syntax.specs.Register.{mask_turn, more_masks}
use Rattle.syntax.proofs.LoopSteps.{sign-full, sign-end, sign-on}
use Rattle.syntax.proofs.register.more_masks.Goals as goal

pub returns-after-loop : goal.returns-after-loop
unfolding more_masks
returns-after-loop c = sign-full _ _ _ _ _ _ _ c.loop.invariant c.loop-test.false

pub returns-then-seen-ne-COMMA : goal.returns-then-seen-ne-COMMA
unfolding more_masks
returns-then-seen-ne-COMMA c = sign-end _ _ _ _ _ _ _ c.loop.invariant c.look-seen.ensures c.if-seen-ne-COMMA.true

pub loop-preserved : goal.loop-preserved
unfolding more_masks mask_turn
loop-preserved c =
    sign-on _ _ _ _ _ _ _ c.loop.invariant c.look-seen.ensures c.loop-test.true c.if-seen-ne-COMMA.false (c.attribute_after-all.ensures ∙ rw c.look-seen.ensures)
