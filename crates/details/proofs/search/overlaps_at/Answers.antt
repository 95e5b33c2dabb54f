-- `details::search::overlaps_at` meets its contract.
use mathlib.Core.Path.{ap₂, ◌∙◌}
use Rattle.tables.specs.Scan.{overlap}
use Rattle.details.proofs.search.overlaps_at.Goals as goal

pub returns : goal.returns
returns c = c.overlaps.ensures ∙ ap₂ overlap c.piece_of-earlier.ensures c.piece_of-piece.ensures
