-- `frames::ends_at` meets its contract. Assumes nothing.
use borrow.Author.Tests.{lt-ltb, le-ltb, le-leb}
use Rattle.frames.specs.Frames.{ends_at}
use Rattle.frames.proofs.ends_at.Goals as goal

pub returns-then-at-input : goal.returns-then-at-input
unfolding ends_at
returns-then-at-input c = rw (le-leb _ _ c.if-at-input.true, le-ltb _ _ c.if-at-input.true, ends_at)

pub returns-else-at-input : goal.returns-else-at-input
unfolding ends_at
returns-else-at-input c = rw (lt-ltb _ _ c.if-at-input.false, ends_at)
