-- What the last arm of a `match` on a number is told.
-- Assumes nothing.
use mathlib.Core.Bool.{false}
use mathlib.Core.List.{List, [], ◌∷◌}
use mathlib.Core.Path.{◌≡◌, refl}
use Prim.Native.Nat.{ℕ}
use types.Run.{OneOf}
use borrow.Author.Tests.{ne_eqb}
use Rattle.token.specs.Bytes.{one_of}

-- what the last arm is told where each arm before it has one key
abbrev pub Others : Type 0 → List ℕ → ℕ → Type 0
Others told [] x = told
Others told (k ∷ ks) x = Others (told × (OneOf (k ∷ []) x → ⊥)) ks x

told-first : (told : Type 0) (ks : List ℕ) (x : ℕ) → Others told ks x → told
told-first told [] x o = o
told-first told (k ∷ ks) x o = (told-first (told × (OneOf (k ∷ []) x → ⊥)) ks x o).0

pub other-than : (told : Type 0) (ks : List ℕ) (x : ℕ) → Others told ks x → one_of ks x ≡ false
unfolding one_of
other-than told [] x o = refl
other-than told (k ∷ ks) x o =
    rw (ne_eqb x k (told-first (told × (OneOf (k ∷ []) x → ⊥)) ks x o).1, other-than (told × (OneOf (k ∷ []) x → ⊥)) ks x o)
