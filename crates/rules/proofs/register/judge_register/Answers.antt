-- `rules::register::judge_register` meets its contract.
use Rattle.rules.specs.Register.{judge_register}
use Rattle.rules.proofs.JudgingLaws.{judged-stopped, judged-broken, judged-on, register-entered}
use Rattle.rules.proofs.register.judge_register.Goals as goal

pub returns-then-is_some : goal.returns-then-is_some
returns-then-is_some c = judged-stopped _ _ _ _ c.is_some.ensures _ c.if-is_some.true

pub returns-then-is_some-2 : goal.returns-then-is_some-2
unfolding judge_register
returns-then-is_some-2 c = judged-broken _ _ _ _ c.is_some.ensures c.if-is_some.false c.register_written-written.ensures c.is_some-2.ensures _ c.if-is_some-2.true

pub returns : goal.returns
unfolding judge_register
returns c = judged-on _ _ _ _ c.is_some.ensures c.if-is_some.false c.register_written-written.ensures c.is_some-2.ensures _ c.if-is_some-2.false (register-entered _ _ _ _ _ _ c.word-count.ensures.is c.add_register.ensures c.register_fault-number.ensures c.fault_of.ensures)
