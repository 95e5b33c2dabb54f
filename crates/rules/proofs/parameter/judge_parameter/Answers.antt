-- `rules::parameter::judge_parameter` meets its contract.
use mathlib.Core.Bool.{false≢true}
use Rattle.rules.specs.Parameter.{judge_parameter}
use Rattle.rules.proofs.JudgingLaws.{judged-stopped, judged-broken, judged-on, parameter-entered}
use Rattle.rules.proofs.parameter.judge_parameter.Goals as goal

pub returns-then-is_some : goal.returns-then-is_some
returns-then-is_some c = judged-stopped _ _ _ _ c.is_some.ensures _ c.if-is_some.true

pub declared_before-six-requires : goal.declared_before-six-requires
declared_before-six-requires c = λ e. absurd (false≢true e)

pub returns-then-is_some-2 : goal.returns-then-is_some-2
unfolding judge_parameter
returns-then-is_some-2 c = judged-broken _ _ _ _ c.is_some.ensures c.if-is_some.false c.declared_before-six.ensures c.is_some-2.ensures _ c.if-is_some-2.true

pub returns : goal.returns
unfolding judge_parameter
returns c = judged-on _ _ _ _ c.is_some.ensures c.if-is_some.false c.declared_before-six.ensures c.is_some-2.ensures _ c.if-is_some-2.false (parameter-entered _ _ _ _ _ c.word-count.ensures.is c.add_parameter.ensures c.parameter_fault-number.ensures c.fault_of.ensures)
