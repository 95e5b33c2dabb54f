use Rattle.script.proofs.PatternLaws.{Spelled}
use Rattle.script.proofs.patterns.digits_of.Given as goal

abbrev pub invariant-loop-i : goal.invariant-loop-i
invariant-loop-i l = Spelled l.bits l.spelled l.rest l.i
