-- `details::ranges::greatest_of` meets its contract: of the patterns, those of the values below 0 are left out.
use Prim.Native.Nat.{ℕ, zero, suc, ◌-◌, ◌/◌, ◌^◌, ◌<◌}
use mathlib.Core.Path.{◌≡◌, ◌∙◌, refl, sym, ap}
use mathlib.Core.Bool.{Bool, true, false, cond}
use native.Mathlib.Omega.{arith}
use lib.Dec.{eqb}
use lib.IntN.{pos, neg_ℤ, pred_ℤ, nat_abs}
use lib.Pow.{pow_pos}
use Rattle.bits.specs.Values.{limit_of, least}
use Rattle.details.proofs.ranges.greatest_of.Goals as goal

magnitude : (n : ℕ) → nat_abs (neg_ℤ (pos n)) ≡ n
magnitude zero = refl
magnitude (suc n) = refl

depth_is : (kind w d : ℕ) → neg_ℤ (pos d) ≡ least kind w → d ≡ cond (eqb kind 1) (2 ^ w / 2) 0
depth_is kind w d e = sym (magnitude d) ∙ ap nat_abs e ∙ go (eqb kind 1)
  where
    go : (signed : Bool) → nat_abs (cond signed (neg_ℤ (pos (cond signed (2 ^ w / 2) (2 ^ w)))) (pos 0)) ≡ cond signed (2 ^ w / 2) 0
    go true = magnitude (2 ^ w / 2)
    go false = refl

before : (n m : ℕ) → suc m ≡ n → pos m ≡ pred_ℤ (pos n)
before n m e = rw (sym e)

-- what is left of the patterns, less one
left_is : (kind w d : ℕ) → 0 < w → neg_ℤ (pos d) ≡ least kind w → (d < 2 ^ w) × (suc (2 ^ w - 1 - d) ≡ limit_of kind w)
left_is kind zero d some e = absurd (omega arith)
left_is kind (suc k) d some e = go (eqb kind 1) (depth_is kind (suc k) d e)
  where
    go : (signed : Bool) → d ≡ cond signed (2 ^ suc k / 2) 0 → (d < 2 ^ suc k) × (suc (2 ^ suc k - 1 - d) ≡ cond signed (2 ^ suc k / 2) (2 ^ suc k))
    go true e = (omega (arith, pow_pos k), omega (arith, pow_pos k))
    go false e = (omega (arith, pow_pos k), omega (arith, pow_pos k))

pub overflow_sub-result : goal.overflow_sub-result
overflow_sub-result c = omega (arith, c.power-whole.ensures, pow_pos c.args.width)

pub overflow_sub-result-2 : goal.overflow_sub-result-2
overflow_sub-result-2 c =
    let a = c.args in
    let left = left_is a.kind a.width c.depth_of-depth.result c.requires.0 c.depth_of-depth.ensures in
    omega (arith, c.power-whole.ensures, left.0)

pub returns : goal.returns
returns c =
    let a = c.args in
    let left = left_is a.kind a.width c.depth_of-depth.result c.requires.0 c.depth_of-depth.ensures in
    rw c.power-whole.ensures (before _ _ left.1)
