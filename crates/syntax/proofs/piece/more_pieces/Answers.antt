use native.Mathlib.Omega.{arith}
use Rattle.syntax.specs.Piece.{more_pieces}
use Rattle.syntax.proofs.ItemSteps.{items-full, items-end, items-on}
use Rattle.syntax.proofs.piece.more_pieces.Goals as goal

pub returns-after-loop-clause-answered : goal.returns-after-loop-clause-answered
unfolding more_pieces
returns-after-loop-clause-answered c = (items-full _ _ _ _ _ _ _ c.loop.invariant.1 c.loop-test.false).0

pub returns-after-loop-clause-stored : goal.returns-after-loop-clause-stored
unfolding more_pieces
returns-after-loop-clause-stored c = (items-full _ _ _ _ _ _ _ c.loop.invariant.1 c.loop-test.false).1

pub returns-then-seen-ne-HASH-clause-answered : goal.returns-then-seen-ne-HASH-clause-answered
unfolding more_pieces
returns-then-seen-ne-HASH-clause-answered c = (items-end _ _ _ _ _ _ _ c.loop.invariant.1 c.look-seen.ensures c.if-seen-ne-HASH.true).0

pub returns-then-seen-ne-HASH-clause-stored : goal.returns-then-seen-ne-HASH-clause-stored
unfolding more_pieces
returns-then-seen-ne-HASH-clause-stored c = (items-end _ _ _ _ _ _ _ c.loop.invariant.1 c.look-seen.ensures c.if-seen-ne-HASH.true).1

pub loop-preserved : goal.loop-preserved
unfolding more_pieces
loop-preserved c = (
  omega arith,
  items-on _ _ _ _ _ _ _ c.loop.invariant.1 c.look-seen.ensures c.loop-test.true c.if-seen-ne-HASH.false c.piece_after-all.ensures.answered c.piece_after-all.ensures.stored,
)
