-- `tables::pieces::overlaps_earlier` meets its contract: the chain tests each earlier piece.
use borrow.Author.Rules.{rules}
use borrow.Author.Tests.{tests}
use mathlib.Core.Path.{refl}
use Rattle.tables.specs.Scan.{overlaps_earlier}
use Rattle.tables.proofs.RangeLaws.{any-range}
use Rattle.tables.proofs.pieces.overlaps_earlier.Goals as goal

pub returns : goal.returns
unfolding overlaps_earlier
returns c = any-range _ _ _ _ refl c.any.ensures.ran (λ x b q k. search (rules, tests))
