-- `wiring::order::mentioned` meets its contract: the chain tests each of the pieces, the last first.
use borrow.Author.Rules.{rules}
use borrow.Author.Tests.{tests}
use Rattle.wiring.proofs.OrderLaws.{any-back}
use Rattle.wiring.proofs.order.mentioned.Goals as goal

pub returns : goal.returns
returns c = any-back _ _ _ _ c.rev.ensures.source c.any.ensures.ran (λ x b q k. search (rules, tests))
