-- Words stored behind the variables that are there leave those as they were.
-- Assumes nothing.
use Prim.Native.Nat.{ℕ, suc, ◌<◌}
use native.Mathlib.Omega.{arith}
use mathlib.Core.Path.{◌≡◌, refl, ◌∙◌}
use mathlib.Core.List.{List, [], ◌∷◌}
use lib.ListN.{get_or, set}
use lib.Seq.{get_or-set_other, sets}
use Rattle.rules.specs.Words.{written}

-- ---- stores past a place
sets_below : (ws t : List ℕ) (at i : ℕ) → i < at → get_or (sets t at ws) i 0 ≡ get_or t i 0
sets_below [] t at i l = refl
sets_below (a ∷ ws) t at i l = sets_below ws (set t at a) (suc at) i (omega arith) ∙ get_or-set_other t at i a 0 (λ e. omega arith)

pub written_below : (t : List ℕ) (at : ℕ) (ws : List ℕ) (i : ℕ) → i < at → get_or (written t at ws) i 0 ≡ get_or t i 0
unfolding written
written_below t at ws i l = sets_below ws t at i l
