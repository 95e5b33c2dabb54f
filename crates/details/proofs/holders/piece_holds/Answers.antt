-- `details::holders::piece_holds` meets its contract.
use Rattle.details.proofs.HolderLaws.{piece-has}
use Rattle.details.proofs.holders.piece_holds.Goals as goal

pub returns : goal.returns
returns c = piece-has c.args.variables.now c.args.piece c.args.number c.word-register.ensures.is c.word-high.ensures.is c.word-low.ensures.is
