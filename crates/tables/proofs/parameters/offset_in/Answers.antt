-- `tables::parameters::offset_in` meets its contract: the chain tests each range.
use borrow.Author.Rules.{rules}
use borrow.Author.Tests.{tests}
use Rattle.tables.specs.Rules.{offset_in}
use Rattle.tables.proofs.RangeLaws.{any-range}
use Rattle.tables.proofs.parameters.offset_in.Goals as goal

pub returns : goal.returns
unfolding offset_in
returns c = any-range _ _ _ _ c.word-n.ensures.is c.any.ensures.ran (λ x b q k. search (rules, tests))
