-- `rules::names::find` meets its contract.
use Prim.Native.Nat.{ℕ, ◌*◌, ◌+◌}
use borrow.Author.Rules.{rules}
use borrow.Author.Tests.{tests}
use Rattle.tables.proofs.RangeLaws.{found-in-range}
use Rattle.rules.specs.Names.{is_named, found_below, found_in}
use Rattle.rules.proofs.names.find.Goals as goal

pub returns : goal.returns
unfolding found_in found_below
returns c =
    let a = c.args in
    found-in-range (λ (i : ℕ). is_named a.text.now a.table.now (a.stride * i + 1) a.name.now) _ _ _ c.held.ensures.is c.find.ensures.ran (λ x b q k. search (rules, tests))
