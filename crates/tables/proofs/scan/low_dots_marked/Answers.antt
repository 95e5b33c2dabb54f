-- `tables::scan::low_dots_marked` meets its contract: inside the map as `dots_inside` says, else by the chain.
use borrow.Author.Rules.{rules}
use borrow.Author.Tests.{tests}
use mathlib.Core.Path.{refl}
use Rattle.tables.proofs.RangeLaws.{all-range}
use Rattle.tables.proofs.scan.low_dots_marked.Goals as goal

pub returns : goal.returns
returns c = all-range _ _ _ _ refl c.all.ensures.ran (λ x b q k. search (rules, tests))
