use mathlib.Core.Path.{sym, ◌∙◌}
use borrow.Author.Tests.{lt-ltb}
use lib.ListN.{length}
use lib.Seq.{length-take-le}
use Rattle.loader.specs.Load.{loaded, lent_as}
use Rattle.pieces.specs.Pieces.{ended_as, held_as, end_of}
use Rattle.pieces.proofs.PieceLaws.{ended_is, stored-long}
use Rattle.pieces.proofs.end_pieces.Goals as goal

pub returns-then-is_short : goal.returns-then-is_short
unfolding ended_as end_of held_as loaded lent_as
returns-then-is_short c = rw (sym c.is_short.ensures ∙ c.if-is_short.true)

pub returns-then-taken-gt8192 : goal.returns-then-taken-gt8192
unfolding ended_as end_of held_as loaded lent_as
returns-then-taken-gt8192 c = rw (sym c.is_short.ensures ∙ c.if-is_short.false, lt-ltb 8192 c.args.taken c.if-taken-gt8192.true)

pub slice_bounds-load-end : goal.slice_bounds-load-end
slice_bounds-load-end c = sym (length-take-le c.args.taken c.args.store.now (stored-long _ c.args.taken (length c.args.store.now) c.is_short.ensures c.if-is_short.false c.if-taken-gt8192.false))

pub returns : goal.returns
returns c = ended_is _ c.args.store.now c.args.taken _ _ _ _ c.is_short.ensures c.if-is_short.false c.if-taken-gt8192.false c.load-verdict.ensures
