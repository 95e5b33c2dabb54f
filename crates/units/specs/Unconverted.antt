-- Why a reading is not converted (02, No. 10), and the numbers of the refusals.
use Rattle.std.specs.Prelude.{ℕ}
use Rattle.units.specs.declared.unconverted.Unconverted.{Unconverted}
use Rattle.units.specs.declared.unconverted.Unconverted.TheVariants.{Unusable, Infinite}

-- 53: "A gain or offset not finite"; 54: "a product or sum not finite"
abbrev pub number_of : Unconverted → ℕ
number_of Unusable = 53
number_of Infinite = 54
