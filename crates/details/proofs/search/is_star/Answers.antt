use mathlib.Core.Path.{ap₂}
use mathlib.Core.Bool.{Bool, ◌&&◌, not}
use Rattle.details.proofs.search.is_star.Goals as goal

pub returns : goal.returns
returns c = ap₂ (λ (dot fixed : Bool). not dot && not fixed) c.mask_bit.ensures c.mask_bit-2.ensures
