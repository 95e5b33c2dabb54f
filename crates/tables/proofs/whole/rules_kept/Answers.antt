-- `tables::whole::rules_kept` meets its contract: the chain tests each parameter, the calls the rest.
use borrow.Author.Rules.{rules}
use borrow.Author.Tests.{tests}
use mathlib.Core.Path.{ap₂, ◌∙◌}
use mathlib.Core.Bool.{◌&&◌}
use Rattle.tables.proofs.RangeLaws.{all-range}
use Rattle.tables.proofs.SoundLaws.{rules-say}
use Rattle.tables.proofs.whole.rules_kept.Goals as goal

pub returns : goal.returns
returns c =
    ap₂ ◌&&◌ (ap₂ ◌&&◌ (all-range _ _ _ _ c.word-p.ensures.is c.all.ensures.ran (λ x b q k. search (rules, tests))) c.registers_kept.ensures) c.variables_kept.ensures
    ∙ rules-say _ _ _
