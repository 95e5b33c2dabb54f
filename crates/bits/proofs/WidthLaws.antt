-- No width passes the greatest.
use Prim.Native.Nat.{ℕ, ◌≤◌}
use native.Mathlib.Omega.{arith}
use mathlib.Core.Path.{◌≡◌, refl}
use mathlib.Core.Bool.{Bool, true, false, ◌||◌}
use lib.Dec.{eqb}
use borrow.Author.Tests.{eqb-true}
use Rattle.bits.specs.Widths.{is_width, widest}

pub width-most : (w : ℕ) → is_width w ≡ true → w ≤ widest
unfolding is_width
width-most w h = go (eqb w 8) refl (eqb w 16) refl h
  where
    go : (a : Bool) → eqb w 8 ≡ a → (b : Bool) → eqb w 16 ≡ b → (a || b || eqb w widest) ≡ true → w ≤ widest
    go true e b f h = omega (arith, eqb-true w 8 e)
    go false e true f h = omega (arith, eqb-true w 16 f)
    go false e false f h = omega (arith, eqb-true w widest h)
