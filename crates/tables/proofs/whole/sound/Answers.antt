-- `tables::whole::sound` meets its contract: tables that fit have their counts in range.
use Rattle.tables.proofs.SoundLaws.{counts}
use mathlib.Core.Path.{sym, ◌∙◌}
use Rattle.tables.proofs.whole.sound.Goals as goal

pub inside_sound-requires : goal.inside_sound-requires
inside_sound-requires c = counts _ _ _ (sym c.tables_fit.ensures ∙ c.if-tables_fit.true)
