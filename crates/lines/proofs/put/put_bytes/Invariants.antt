-- `lines::put::put_bytes` meets its contract.
use Rattle.lines.proofs.LineLaws.{Putting}
use Rattle.lines.proofs.put.put_bytes.Given as goal

abbrev pub invariant-loop-k : goal.invariant-loop-k
invariant-loop-k l = Putting l.initial.out l.at l.what l.out l.k
