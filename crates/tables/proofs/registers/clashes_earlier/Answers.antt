-- `tables::registers::clashes_earlier` meets its contract: the chain tests each earlier register.
use borrow.Author.Rules.{rules}
use borrow.Author.Tests.{tests}
use mathlib.Core.Path.{refl}
use Rattle.tables.proofs.RangeLaws.{any-range}
use Rattle.tables.proofs.registers.clashes_earlier.Goals as goal

pub returns : goal.returns
returns c = any-range _ _ _ _ refl c.any.ensures.ran (λ x b q k. search (rules, tests))
