use mathlib.Core.Path.{sym}
use lib.Seq.{length-take-le}
use Rattle.arrivals.proofs.end.Goals as goal

pub slice_bounds-end_pieces-end : goal.slice_bounds-end_pieces-end
slice_bounds-end_pieces-end g c = sym (length-take-le _ c.args.store.now c.lent-part.ensures)
