-- `loader::whole::verdict_on` meets its contract.
use Rattle.loader.proofs.LoadLaws.{verdict-unread, verdict-is, tables-left}
use Rattle.std.proofs.lemmas.Result.{err_from_is_err_and}
use Rattle.loader.proofs.whole.verdict_on.Goals as goal

pub returns : goal.returns
returns c = record {
  answered = verdict-is _ _ _ _ _ c.judge_text-all.ensures.read c.in_ok-all.was c.judge_text-all.ensures.ready c.uncovered-first.ensures c.judged_as.ensures;
  left = tables-left _ _ _ _ _ c.judge_text-all.ensures.read;
}

pub returns-in_err-all : goal.returns-in_err-all
returns-in_err-all c =
    let p = err_from_is_err_and c.from_residual.result c.from_residual.ensures.1 in
    record {
      answered = rw (p.1, p.2) (verdict-unread _ _ _ _ _ c.judge_text-all.ensures.read c.in_err-all.was);
      left = tables-left _ _ _ _ _ c.judge_text-all.ensures.read;
    }
