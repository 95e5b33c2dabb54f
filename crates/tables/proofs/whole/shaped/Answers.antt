-- `tables::whole::shaped` meets its contract: the chains test each entry.
use borrow.Author.Rules.{rules}
use borrow.Author.Tests.{tests}
use mathlib.Core.Path.{ap₂}
use mathlib.Core.Bool.{◌&&◌}
use Rattle.tables.specs.Sound.{shapes_fit}
use Rattle.tables.proofs.RangeLaws.{all-range}
use Rattle.tables.proofs.whole.shaped.Goals as goal

pub returns : goal.returns
unfolding shapes_fit
returns c =
    ap₂ ◌&&◌ c.rest_blank.ensures (ap₂ ◌&&◌ (ap₂ ◌&&◌
    (all-range _ _ _ _ c.word-p.ensures.is c.all.ensures.ran (λ x b q k. search (rules, tests)))
    (all-range _ _ _ _ c.word-r.ensures.is c.all-2.ensures.ran (λ x b q k. search (rules, tests))))
    (all-range _ _ _ _ c.word-v.ensures.is c.all-3.ensures.ran (λ x b q k. search (rules, tests))))
