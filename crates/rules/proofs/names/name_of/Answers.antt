-- `rules::names::name_of` meets its contract.
use Rattle.rules.proofs.NameLaws.{part_of}
use Rattle.rules.proofs.names.name_of.Goals as goal

pub returns : goal.returns
returns c = part_of _ _ _ c.min.ensures c.min-2.ensures
