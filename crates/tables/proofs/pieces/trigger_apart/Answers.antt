-- `tables::pieces::trigger_apart` meets its contract: the chain asks of each piece's register.
use Prim.Native.Nat.{ℕ, ◌+◌, ◌*◌}
use borrow.Author.Rules.{rules}
use borrow.Author.Tests.{tests}
use mathlib.Core.Path.{ap, ◌∙◌}
use mathlib.Core.Bool.{cond}
use lib.Dec.{eqb}
use lib.ListN.{get_or}
use Rattle.bits.specs.Widths.{widest}
use Rattle.tables.specs.Every.{every}
use Rattle.tables.specs.Tables.{piece_at}
use Rattle.tables.specs.Words.{piece_count, piece_register}
use Rattle.tables.proofs.MarkLaws.{free-each}
use Rattle.tables.proofs.RangeLaws.{all-range}
use Rattle.tables.proofs.pieces.trigger_apart.Goals as goal

pub returns : goal.returns
returns c =
    let s = c.args in
    let vs = s.variables.now in
    let asked = c.pick.ensures ∙ ap (λ (t : ℕ). cond (eqb t 1) 0 1) c.word.ensures.is in
    all-range (λ (k : ℕ). eqb (get_or s.map.now (64 * piece_register vs (piece_at s.at k) + (widest + c.pick.result)) 0) 0) _ _ _ c.word-n.ensures.is c.all.ensures.ran (λ x b q k. search (rules, tests))
    ∙ ap (λ (h : ℕ). every (piece_count vs s.at) (λ (k : ℕ). eqb (get_or s.map.now (64 * piece_register vs (piece_at s.at k) + (widest + h)) 0) 0)) asked ∙ free-each s.map.now _ _
