-- `details::entries::alike_words` meets its contract.
use borrow.Author.Rules.{rules}
use borrow.Author.Tests.{tests}
use mathlib.Core.Path.{refl}
use Rattle.tables.proofs.RangeLaws.{all-range}
use Rattle.details.specs.Entries.{alike}
use Rattle.details.proofs.entries.alike_words.Goals as goal

pub returns : goal.returns
unfolding alike
returns c = all-range _ _ _ _ refl c.all.ensures.ran (λ x b q k. search (rules, tests))
