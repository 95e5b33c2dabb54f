use Rattle.script.proofs.PatternLaws.{low-figure, high-figure}
use Rattle.script.proofs.patterns.figure.Goals as goal

pub returns-then-digit-lt10 : goal.returns-then-digit-lt10
returns-then-digit-lt10 c = low-figure _ c.if-digit-lt10.true

pub returns-else-digit-lt10 : goal.returns-else-digit-lt10
returns-else-digit-lt10 c = high-figure _ c.if-digit-lt10.false
