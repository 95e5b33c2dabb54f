-- `lines::put::spell` meets its contract.
use mathlib.Core.Path.{◌≡◌}
use lib.ListN.{length}
use Rattle.lines.proofs.LineLaws.{Spelling}
use Rattle.lines.proofs.put.spell.Given as goal

abbrev pub invariant-loop-rest : goal.invariant-loop-rest
invariant-loop-rest l = Spelling l.number l.digits l.rest l.i × (length l.digits ≡ length l.initial.digits)

abbrev pub decreases-loop-rest : goal.decreases-loop-rest
decreases-loop-rest l = l.i
