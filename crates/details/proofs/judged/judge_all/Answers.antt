-- `details::judged::judge_all` meets its contract.
use Rattle.details.proofs.PlaceLaws.{state-judged}
use Rattle.details.proofs.judged.judge_all.Goals as goal

pub returns : goal.returns
returns c = state-judged _ _ _ _ _ c.judge_text-all.ensures.read
