-- A turn of a search through the numbers below a limit. Assumes nothing.
use Prim.Native.Nat.{ℕ, suc, ◌+◌, ◌-◌, ◌<◌}
use native.Mathlib.Omega.{arith}
use mathlib.Core.Path.{◌≡◌, ap, ◌∙◌}
use mathlib.Core.Bool.{Bool, true, false}
use mathlib.Core.List.{◌∷◌}
use Rattle.std.specs.Prelude.{Some}
use Rattle.std.specs.List.{find, range_with_len}
use Rattle.details.specs.Search.{first}

module _ (passes : ℕ → Bool) (most i : ℕ) (here : first most passes ≡ find passes (range_with_len i (most - i))) (inside : i < most) where
  to-come : range_with_len i (most - i) ≡ i ∷ range_with_len (i + 1) (most - (i + 1))
  to-come = let e : most - i ≡ suc (most - (i + 1)) = omega arith in ap (range_with_len i) e

  pub search-found : passes i ≡ true → first most passes ≡ Some i
  search-found e = here ∙ rw (to-come, e)

  pub search_on : passes i ≡ false → first most passes ≡ find passes (range_with_len (i + 1) (most - (i + 1)))
  search_on e = here ∙ rw (to-come, e)
