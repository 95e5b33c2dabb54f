-- `loader::whole::judged_as` meets its contract.
use borrow.Author.Tests.{lt-ltb, le-ltb}
use Rattle.loader.specs.Load.{judged_as}
use Rattle.loader.proofs.whole.judged_as.Goals as goal

pub returns-in-Some : goal.returns-in-Some
unfolding judged_as
returns-in-Some c = rw (c.in-Some.is, c.from.ensures)

pub returns-then-uncovered-count : goal.returns-then-uncovered-count
unfolding judged_as
returns-then-uncovered-count c = rw (c.in_default.is, ← c.word-count.ensures.is, lt-ltb _ _ c.if-uncovered-count.true, c.word.ensures.is)

pub returns : goal.returns
unfolding judged_as
returns c = rw (c.in_default.is, ← c.word-count.ensures.is, le-ltb _ _ c.if-uncovered-count.false, ← c.word-2.ensures.is, ← c.word-3.ensures.is)
