-- `details::rows::same_holders` meets its contract.
use borrow.Author.Rules.{rules}
use borrow.Author.Tests.{tests}
use mathlib.Core.Path.{refl}
use Rattle.tables.proofs.RangeLaws.{all-range}
use Rattle.details.specs.Rows.{same_holders}
use Rattle.details.proofs.rows.same_holders.Goals as goal

pub returns : goal.returns
unfolding same_holders
returns c = all-range _ _ _ _ refl c.all.ensures.ran (λ x b q k. search (rules, tests))
