use mathlib.Core.Path.{sym}
use lib.Seq.{length-take-le}
use Rattle.arrivals.proofs.take.Goals as goal

pub slice_bounds-take_piece-end-2 : goal.slice_bounds-take_piece-end-2
slice_bounds-take_piece-end-2 g c = sym (length-take-le _ c.args.store.now c.lent-part.ensures)
