-- `rules::words::store` meets its contract.
use mathlib.Core.Path.{sym, ◌∙◌}
use Rattle.rules.proofs.WordLaws.{written-turn, written-end, written_start}
use Rattle.rules.proofs.words.store.Goals as goal

pub loop-k-init : goal.loop-k-init
loop-k-init c = written_start _ _ _

pub loop-k-preserved : goal.loop-k-preserved
loop-k-preserved c = c.loop-k.invariant ∙ written-turn _ _ _ _ c.loop-k-test.true c.put.ensures

pub returns : goal.returns
returns c = sym (c.loop-k.invariant ∙ written-end _ _ _ _ c.loop-k-test.false)
