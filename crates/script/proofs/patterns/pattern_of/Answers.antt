use borrow.Author.Tests.{ne_eqb}
use Rattle.script.specs.Patterns.{pattern_of}
use Rattle.script.proofs.patterns.pattern_of.Goals as goal

pub returns-then-word-eq16 : goal.returns-then-word-eq16
unfolding pattern_of
returns-then-word-eq16 c = rw (c.if-word-eq16.true, pattern_of) c.digits.ensures

pub returns-else-word-eq16 : goal.returns-else-word-eq16
unfolding pattern_of
returns-else-word-eq16 c = rw (ne_eqb _ _ c.if-word-eq16.false, pattern_of)
