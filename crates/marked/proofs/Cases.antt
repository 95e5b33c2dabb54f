-- THE MARKED CASES of document 01, proved together: one table, one claim.
-- Assumes nothing.
use mathlib.Core.Path.{ap₂}
use mathlib.Core.List.{List, [], ◌∷◌}
use lib.ListN.{take, drop}
use Rattle.loader.specs.Verdict.{Verdict}
use Rattle.station.specs.declared.Answer.{Answer}
use Rattle.marked.specs.Marked.{marked, answers_to, MarkedCases}
use Rattle.marked.proofs.Computing.{computing}
use Rattle.marked.proofs.Rows.{AsStated, all-computed, in_parts}
use Rattle.marked.proofs.Many.{sixty-four, sixty-five}

-- all but the last two compute at once
small : AsStated (take 22 marked)
unfolding computing
small = all-computed (take 22 marked)

-- 64 registers, and one more
large : AsStated (drop 22 marked)
unfolding marked answers_to
large = ap₂ {C = List (Verdict × List Answer)} (λ (v w : Verdict). (v, []) ∷ (w, []) ∷ []) sixty-four sixty-five

pub marked-cases : MarkedCases
marked-cases = in_parts 22 marked small large
