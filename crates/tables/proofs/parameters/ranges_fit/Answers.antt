-- `tables::parameters::ranges_fit` meets its contract: the chain tests each range.
use borrow.Author.Rules.{rules}
use borrow.Author.Tests.{tests}
use Rattle.tables.specs.Rules.{ranges_fit}
use Rattle.tables.proofs.RangeLaws.{all-range}
use Rattle.tables.proofs.parameters.ranges_fit.Goals as goal

pub returns : goal.returns
unfolding ranges_fit
returns c = all-range _ _ _ _ c.word-n.ensures.is c.all.ensures.ran (λ x b q k. search (rules, tests))
