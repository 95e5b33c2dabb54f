-- `rules::lists::all_have` meets its contract.
use borrow.Author.Rules.{rules}
use borrow.Author.Tests.{tests}
use mathlib.Core.Path.{refl}
use lib.ListN.{get_or}
use Prim.Native.Nat.{ℕ, ◌*◌}
use Rattle.tables.specs.Words.{present, register_part}
use Rattle.tables.specs.View.{part_no}
use Rattle.tables.proofs.RangeLaws.{all-range}
use Rattle.rules.specs.Lists.{all_have}
use Rattle.rules.proofs.lists.all_have.Goals as goal

pub returns : goal.returns
unfolding all_have
returns c =
    let a = c.args in
    all-range (λ (k : ℕ). present a.registers.now (register_part (get_or a.pieces.now (3 * k) 0) (part_no a.part))) _ _ _ refl c.all.ensures.ran
    (λ x b q k. search (rules, tests))
