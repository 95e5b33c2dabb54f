-- The check finds this alone; it is written out so that a wrong limit is refused here, at the fact.
use mathlib.Core.Path.{refl}
use Rattle.syntax.specs.Text.{register_with, moved_to, bare, outlined}
use borrow.Author.Tests.{le-leb}
use Rattle.syntax.proofs.text.register_next.Goals as goal

pub returns-then-outline-ge-MOST_REGISTERS : goal.returns-then-outline-ge-MOST_REGISTERS
unfolding register_with moved_to bare outlined
returns-then-outline-ge-MOST_REGISTERS c = rw (register_with, le-leb _ _ c.if-outline-ge-MOST_REGISTERS.true, ← c.extra_after-extra.ensures) refl
