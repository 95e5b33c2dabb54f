-- `lines::put::put_bytes` meets its contract.
use Rattle.lines.proofs.LineLaws.{putting-none, putting-more}
use Rattle.lines.proofs.put.put_bytes.Goals as goal

pub loop-k-init : goal.loop-k-init
loop-k-init c = putting-none _ _ _

pub loop-k-preserved : goal.loop-k-preserved
loop-k-preserved c = putting-more c.loop-k.invariant c.loop-k-test.true c.put.ensures
