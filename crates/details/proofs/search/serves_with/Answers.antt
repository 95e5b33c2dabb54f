-- `details::search::serves_with` meets its contract.
use mathlib.Core.Path.{ap₂}
use mathlib.Core.Bool.{◌&&◌}
use lib.Dec.{eqb}
use Rattle.details.proofs.search.serves_with.Goals as goal

pub returns : goal.returns
returns c = ap₂ ◌&&◌ (ap₂ ◌&&◌ c.register_has.ensures (ap₂ eqb c.register_word.ensures.is c.register_word-2.ensures.is)) (ap₂ eqb c.register_word-3.ensures.is c.register_word-4.ensures.is)
