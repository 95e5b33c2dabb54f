-- `station::standing::Lent::check` meets its contract.
use mathlib.Core.Path.{◌∙◌, sym}
use Rattle.station.proofs.Laws.{sound-tables}
use Rattle.station.proofs.standing.Lent.check.Goals as goal

pub is_allowed-requires : goal.is_allowed-requires
is_allowed-requires c = sound-tables _ _ _ (sym c.sound.ensures ∙ c.if-not-sound.false)
