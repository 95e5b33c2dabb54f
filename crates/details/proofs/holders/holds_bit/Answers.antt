-- `details::holders::holds_bit` meets its contract.
use borrow.Author.Rules.{rules}
use borrow.Author.Tests.{tests}
use mathlib.Core.Path.{◌∙◌}
use Rattle.tables.proofs.RangeLaws.{any-range}
use Rattle.details.proofs.HolderLaws.{has-joined}
use Rattle.details.proofs.holders.holds_bit.Goals as goal

pub returns : goal.returns
returns c = any-range _ _ _ _ c.piece_count-n.ensures c.any.ensures.ran (λ x b q k. search (rules, tests)) ∙ has-joined _ _ _
