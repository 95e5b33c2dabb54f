use Prim.Native.Nat.{◌+◌}
use mathlib.Core.Path.{sym, ◌∙◌}
use native.Mathlib.Omega.{arith}
use borrow.Author.Tests.{lt-ltb}
use lib.ListN.{length}
use Rattle.pieces.specs.Pieces.{took_as, held_as, passes, piece_of}
use Rattle.pieces.proofs.PieceLaws.{took-is, stored-long}
use Rattle.pieces.proofs.take_piece.Goals as goal

pub returns-then-is_short : goal.returns-then-is_short
unfolding took_as piece_of held_as
returns-then-is_short c = rw (sym c.is_short.ensures ∙ c.if-is_short.true)

pub returns-then-saturating_add-gt8192 : goal.returns-then-saturating_add-gt8192
unfolding took_as piece_of held_as passes
returns-then-saturating_add-gt8192 c =
    rw (sym c.is_short.ensures ∙ c.if-is_short.false, lt-ltb 8192 (c.args.taken + length c.args.piece.now) (omega arith))

pub lay-requires : goal.lay-requires
lay-requires c = stored-long _ (c.args.taken + length c.args.piece.now) _ c.is_short.ensures c.if-is_short.false (omega arith)

pub returns : goal.returns
returns c =
    took-is _ c.args.store.now c.args.piece.now c.args.taken c.is_short.ensures c.if-is_short.false (omega arith)
    c.lay.ensures
