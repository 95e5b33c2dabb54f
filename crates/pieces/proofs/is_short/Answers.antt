use mathlib.Core.Path.{sym, ◌∙◌}
use Rattle.pieces.specs.Pieces.{is_short_for}
use Rattle.pieces.proofs.is_short.Goals as goal

pub returns-then-is_short : goal.returns-then-is_short
unfolding is_short_for
returns-then-is_short c = c.if-is_short.true ∙ rw (sym c.is_short.ensures ∙ c.if-is_short.true)

pub returns-else-is_short : goal.returns-else-is_short
unfolding is_short_for
returns-else-is_short c = rw (sym c.is_short.ensures ∙ c.if-is_short.false)
