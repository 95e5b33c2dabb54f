-- `details::holders::piece_weight` meets its contract.
use mathlib.Core.Path.{◌∙◌, ap}
use Rattle.std.specs.Bool.{then_some}
use Rattle.details.proofs.HolderLaws.{piece_weight}
use Rattle.details.proofs.holders.piece_weight.Goals as goal

pub returns : goal.returns
returns c =
    c.then_some.ensures
    ∙ ap (then_some c.piece_holds.result) c.saturating_sub.ensures
    ∙ piece_weight c.args.variables.now c.args.piece c.args.number c.word.ensures.is c.word-2.ensures.is c.piece_holds.ensures
