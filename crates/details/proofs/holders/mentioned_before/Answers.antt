-- `details::holders::mentioned_before` meets its contract.
use mathlib.Core.Path.{ap, ◌∙◌}
use Rattle.tables.specs.declared.Piece.{Piece}
use Rattle.details.specs.Holders.{mentioned_below}
use Rattle.details.proofs.holders.mentioned_before.Goals as goal

pub returns : goal.returns
returns c = c.mentioned_below.ensures ∙ ap (λ (p : Piece). mentioned_below c.args.variables.now c.args.part p.register c.args.v c.args.k) c.piece_of-piece.ensures
