-- `wiring::pieces::source_of` meets its contract: as `carried_by`, with the laws of `source_below`.
use mathlib.Core.Path.{◌≡◌}
use Rattle.wiring.specs.Pieces.{source_of, source_below}
use Rattle.wiring.proofs.pieces.source_of.Given as goal

abbrev pub invariant-loop-k : goal.invariant-loop-k
invariant-loop-k l = source_of l.variables l.part l.p ≡ source_below l.variables l.part l.k l.left
