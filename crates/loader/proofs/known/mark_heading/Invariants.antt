-- `loader::known::mark_heading` meets its contract.
use Rattle.loader.proofs.KnownLaws.{HeadMarks}
use Rattle.loader.proofs.known.mark_heading.Given as goal

abbrev pub invariant-loop-i : goal.invariant-loop-i
invariant-loop-i l = HeadMarks l.text l.parameters l.initial.known l.known l.i
