-- `tables::pieces::free_part` meets its contract: the chain asks of each piece.
use Prim.Native.Nat.{ℕ}
use borrow.Author.Rules.{rules}
use borrow.Author.Tests.{tests}
use mathlib.Core.Path.{◌∙◌}
use Rattle.tables.specs.Marks.{free}
use Rattle.tables.specs.Tables.{piece_at, piece_bits, piece_in}
use Rattle.tables.proofs.MarkLaws.{free-joined}
use Rattle.tables.proofs.RangeLaws.{all-range}
use Rattle.tables.proofs.pieces.free_part.Goals as goal

pub returns : goal.returns
returns c =
    let s = c.args in
    all-range (λ (k : ℕ). free s.map.now (piece_bits (piece_in s.variables.now (piece_at s.at k)))) _ _ _ c.word-n.ensures.is c.all.ensures.ran (λ x b q k. search (rules, tests)) ∙ free-joined s.map.now _ _
