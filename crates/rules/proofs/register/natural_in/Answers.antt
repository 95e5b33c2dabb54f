-- `rules::register::natural_in` meets its contract.
use borrow.Author.Rules.{rules}
use Rattle.rules.proofs.OffsetLaws.{natural-is}
use Rattle.rules.proofs.register.natural_in.Goals as goal

pub returns : goal.returns
returns c = natural-is c.args.worth c.and_then.ensures (λ z k. search rules)
