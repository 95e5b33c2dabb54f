-- `details::holders::mentioned_below` meets its contract.
use borrow.Author.Rules.{rules}
use borrow.Author.Tests.{tests}
use Prim.Native.Nat.{ℕ}
use mathlib.Core.Path.{◌∙◌, refl}
use Rattle.tables.specs.Tables.{variable_part_of}
use Rattle.tables.specs.View.{part_no}
use Rattle.tables.proofs.RangeLaws.{any-range}
use Rattle.details.proofs.HolderLaws.{has-mentions}
use Rattle.details.proofs.holders.mentioned_below.Goals as goal

pub returns : goal.returns
returns c =
    let a = c.args in
    any-range _ _ _ _ refl c.any.ensures.ran (λ x b q k. search (rules, tests))
    ∙ has-mentions a.register (λ (j : ℕ). ((variable_part_of a.variables.now (part_no a.part) a.v).piece j).register) a.k
