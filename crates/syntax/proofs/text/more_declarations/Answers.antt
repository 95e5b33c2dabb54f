use mathlib.Core.Path.{sym, ap, ◌∙◌}
use Rattle.syntax.specs.Text.{bare, more_declarations, outlined}
use Rattle.syntax.proofs.LoopSteps.{loop-over, loop-done, loop-again}
use Rattle.syntax.proofs.TextSteps.{bare-is}
use Rattle.syntax.proofs.text.more_declarations.Goals as goal

pub returns-after-loop : goal.returns-after-loop
unfolding more_declarations bare outlined
returns-after-loop c = ap outlined (loop-over _ _ _ _ _ _ _ c.loop.invariant c.loop-test.false)

pub returns-then-not-declares : goal.returns-then-not-declares
unfolding more_declarations bare outlined
returns-then-not-declares c = ap outlined (loop-done _ _ _ _ _ _ _ c.loop.invariant c.look-seen.ensures (sym c.declares.ensures ∙ c.if-not-declares.true))

pub loop-preserved : goal.loop-preserved
unfolding more_declarations bare
loop-preserved c = loop-again _ _ _ _ _ _ _ c.loop.invariant c.look-seen.ensures c.loop-test.true (sym c.declares.ensures ∙ c.if-not-declares.false) (bare-is c.declaration_next-all.ensures)
