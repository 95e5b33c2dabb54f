-- A number that stands for none where it is not below a limit, and a number that stands for none where it is 0.
-- Assumes nothing.
use mathlib.Core.Bool.{Bool, true, false}
use mathlib.Core.Path.{◌≡◌, refl, ◌∙◌}
use Prim.Native.Nat.{ℕ, zero, suc, ◌≤◌, ◌<◌}
use native.Mathlib.Omega.{arith}
use lib.Dec.{ltb}
use borrow.Author.Tests.{ltb-true, ltb-false, lt-ltb, le-ltb}
use Rattle.std.specs.Prelude.{Some, None, is_some}
use Rattle.std.specs.Bool.{then_some}
use Rattle.token.specs.Bytes.{below, unless_zero}

module _ (limit k : ℕ) where
  pub some-below : k < limit → Some k ≡ below limit k
  some-below h = rw (lt-ltb k limit h)

  pub none_below : limit ≤ k → None ≡ below limit k
  none_below h = rw (le-ltb k limit h)

  pub below-some : {x : ℕ} → Some x ≡ below limit k → (k < limit) × (x ≡ k)
  below-some {x} e = go (ltb k limit) refl e
    where
      go : (b : Bool) → ltb k limit ≡ b → Some x ≡ then_some b k → (k < limit) × (x ≡ k)
      go true t e = (ltb-true k limit t, cc)
      go false t e = cc

  pub below-none : None ≡ below limit k → limit ≤ k
  below-none e = go (ltb k limit) refl e
    where
      go : (b : Bool) → ltb k limit ≡ b → None ≡ then_some b k → limit ≤ k
      go true t e = cc
      go false t e = ltb-false k limit t

pub is_below : (limit k : ℕ) → is_some (below limit k) ≡ ltb k limit
is_below limit k = go (ltb k limit)
  where
    go : (b : Bool) → is_some (then_some b k) ≡ b
    go true = refl
    go false = refl

pub zero-none : (k : ℕ) → None ≡ unless_zero k → k ≡ 0
zero-none zero e = refl
zero-none (suc k) e = let some : None ≡ Some (suc k) = e ∙ rw (lt-ltb 0 (suc k) (omega arith)) in cc

pub some-sign : (k : ℕ) {x : ℕ} → Some x ≡ unless_zero k → (x ≡ 0 → ⊥) × (x ≡ k)
some-sign zero {x} e = let some : Some x ≡ None = e in cc
some-sign (suc k) {x} e =
    let some : Some x ≡ Some (suc k) = e ∙ rw (lt-ltb 0 (suc k) (omega arith)) in
    let is : x ≡ suc k = cc in
    (λ z. omega arith, is)
