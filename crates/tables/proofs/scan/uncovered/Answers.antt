-- `tables::scan::uncovered` meets its contract: the chain looks for the first that is not covered.
use borrow.Author.Rules.{rules}
use borrow.Author.Tests.{tests}
use Prim.Native.Nat.{ℕ}
use mathlib.Core.Path.{ap, ◌∙◌}
use Rattle.std.specs.Prelude.{unwrap_or}
use Rattle.tables.proofs.RangeLaws.{find-in-range}
use Rattle.tables.proofs.scan.uncovered.Goals as goal

pub returns : goal.returns
returns c =
    c.unwrap_or.ensures ∙ ap (λ (n : ℕ). unwrap_or c.find.result n) c.word-n.ensures.is
    ∙ find-in-range _ _ _ _ c.word-n.ensures.is c.find.ensures.ran (λ x b q k. search (rules, tests))
