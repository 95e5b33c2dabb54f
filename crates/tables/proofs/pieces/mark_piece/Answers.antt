-- `tables::pieces::mark_piece` meets its contract: the answer is rewritten with what the calls promise.
use Rattle.tables.proofs.MarkLaws.{marks-both}
use Rattle.bits.specs.Widths.{widest}
use Rattle.tables.specs.Marks.{down_from, marks}
use Prim.Native.Nat.{ℕ, ◌+◌, ◌*◌}
use mathlib.Core.Path.{ap, ◌∙◌}
use Rattle.tables.proofs.pieces.mark_piece.Goals as goal

pub returns : goal.returns
returns c =
    let s = c.args in
    marks-both s.map.now _ _ c.mark.ensures c.piece_run.ensures.bits
    (c.mark-2.ensures ∙ ap (λ (r : ℕ). marks c.mark.new.map (down_from (64 * r + widest) s.held)) c.word-register.ensures.is)
