-- `explain::source::show_bytes` ends.
use lib.ListN.{length}
use Rattle.explain.proofs.source.show_bytes.Given as goal

abbrev pub decreases-loop-rest : goal.decreases-loop-rest
decreases-loop-rest g l = length l.rest
