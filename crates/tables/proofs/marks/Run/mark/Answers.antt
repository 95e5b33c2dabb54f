-- `tables::marks::Run::mark` meets its contract: the loop invariant says that the work that remains gives what the
-- whole work gives.
use Rattle.tables.proofs.MarkLaws.{marks-turn, marks-end}
use mathlib.Core.Path.{sym, ◌∙◌}
use Rattle.tables.proofs.marks.Run.mark.Goals as goal

pub loop-k-preserved : goal.loop-k-preserved
loop-k-preserved c = marks-turn _ _ c.loop-k-test.true c.mark.ensures ∙ c.loop-k.invariant

pub returns : goal.returns
returns c = sym (marks-end _ _ c.loop-k-test.false) ∙ c.loop-k.invariant
