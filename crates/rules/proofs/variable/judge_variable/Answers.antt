-- `rules::variable::judge_variable` meets its contract.
use mathlib.Core.Path.{sym, ◌∙◌}
use Rattle.rules.proofs.FaultLaws.{not-none}
use Rattle.rules.proofs.VariableLaws.{judged-early, judged-late}
use Rattle.rules.proofs.variable.judge_variable.Goals as goal

pub returns-then-is_some : goal.returns-then-is_some
returns-then-is_some c =
    let broken = sym c.is_some.ensures ∙ c.if-is_some.true in
    record { judged = judged-early _ _ _ _ _ _ _ _ c.early_of-early.ensures broken; mapped = λ e. absurd (not-none _ broken e) }

pub returns : goal.returns
returns c =
    let entered = c.enter-fault.ensures in
    record {
      judged = judged-late _ _ _ _ _ _ _ _ c.early_of-early.ensures (sym c.is_some.ensures ∙ c.if-is_some.false) entered.stored entered.judged;
      mapped = entered.mapped;
    }
