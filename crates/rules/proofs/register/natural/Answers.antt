-- `rules::register::natural` meets its contract.
use mir.Facts.{to_z-of_z}
use Rattle.rules.proofs.OffsetLaws.{natural-tried}
use Rattle.rules.proofs.register.natural.Goals as goal

pub returns : goal.returns
returns c = natural-tried _ c.try_from.result c.ranges.value (to_z-of_z c.ranges.value) c.try_from.ensures c.ok.ensures.value
