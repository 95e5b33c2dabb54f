-- `tables::pieces::mark_part` meets its contract: the loop invariant says that what is gathered so far is the
-- definition at the counter.
use Prim.Native.Nat.{ℕ}
use Rattle.tables.proofs.MarkLaws.{at_count, marks-none, marks-more}
use Rattle.tables.proofs.HoldLaws.{held-most}
use Rattle.tables.specs.Marks.{joined, marks}
use Rattle.tables.specs.Tables.{piece_at, piece_in, variable_part_in}
use Rattle.tables.specs.Scan.{piece_enters}
use lib.Dec.{eqb}
use mathlib.Core.Bool.{cond}
use mathlib.Core.Path.{refl, ap, ◌∙◌}
use native.Mathlib.Omega.{arith}
use borrow.Author.Rules.{rules}
use Rattle.tables.proofs.pieces.mark_part.Goals as goal

pub loop-k-init : goal.loop-k-init
loop-k-init c = marks-none _ _

pub mark_piece-requires : goal.mark_piece-requires
mark_piece-requires c = record {
  piece_bound = search rules;
  held_bound = held-most (eqb c.word.result 1) c.pick-held.ensures;
}

pub loop-k-preserved : goal.loop-k-preserved
loop-k-preserved c =
    let s = c.args in
    let l = c.loop-k in
    marks-more s.map.now _ l.k l.invariant c.mark_piece.ensures refl

pub returns : goal.returns
returns c =
    let s = c.args in
    let l = c.loop-k in
    let held = c.pick-held.ensures ∙ ap (λ (t : ℕ). cond (eqb t 1) 2 1) c.word.ensures.is in
    at_count (λ (k : ℕ). marks s.map.now (joined (λ j. piece_enters (cond (eqb (variable_part_in s.variables.now s.at).trigger 1) 2 1) (piece_in s.variables.now (piece_at s.at j))) k)) (omega arith) c.loop-k-test.false
    c.word-n.ensures.is (l.invariant ∙ ap (λ (h : ℕ). marks s.map.now (joined (λ j. piece_enters h (piece_in s.variables.now (piece_at s.at j))) l.k)) held)
