-- `details::holders::piece_size` meets its contract.
use Rattle.details.proofs.HolderLaws.{piece_size}
use Rattle.details.proofs.holders.piece_size.Goals as goal

pub returns : goal.returns
returns c = piece_size c.args.variables.now c.args.piece c.word-high.ensures.is c.word-low.ensures.is c.word-high.ensures.small c.saturating_sub.ensures
