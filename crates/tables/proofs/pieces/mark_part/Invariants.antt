-- `tables::pieces::mark_part` meets its contract: the loop invariant says that what is gathered so far is the
-- definition at the counter.
use Rattle.tables.specs.Marks.{joined, marks}
use Rattle.tables.specs.Tables.{piece_at, piece_in}
use Rattle.tables.specs.Scan.{piece_enters}
use mathlib.Core.Path.{◌≡◌}
use Rattle.tables.proofs.pieces.mark_part.Given as goal

abbrev pub invariant-loop-k : goal.invariant-loop-k
invariant-loop-k l = l.map ≡ marks l.initial.map (joined (λ j. piece_enters l.held (piece_in l.variables (piece_at l.at j))) l.k)
