use mathlib.Core.Path.{sym}
use Rattle.wiring.proofs.pieces.piece_at.Goals as goal

pub returns : goal.returns
returns c = record { is = simp (sym c.word-register.ensures.is, sym c.word-high.ensures.is, sym c.word-low.ensures.is); small = c.word-high.ensures.small }
