-- The registers that an operation takes: each once, and at most 8 in sound tables.
-- Assumes nothing.
use Prim.Native.Nat.{ℕ, zero, suc, ◌≤◌, ◌<◌}
use mathlib.Core.Path.{◌≡◌, subst}
use mathlib.Core.Bool.{Bool, true, false}
use mathlib.Core.List.{List, [], ◌∷◌, ◌++◌}
use native.Mathlib.Nat.{le_of_suc-le-suc, not-suc-le-zero}
use native.Mathlib.Omega.{arith}
use lib.ListN.{length, get_or, length-append}
use Rattle.tables.specs.declared.Part.{Part}
use Rattle.tables.specs.View.{Tables, sound, part_no, Among, variable_count, bits_of, registers_of}
use Rattle.tables.proofs.Consistent.{sound-count}
use Rattle.wiring.specs.declared.BitList as Wired
use Rattle.wiring.specs.Pieces.{piece_of}
use Rattle.wiring.specs.Order as O
use Rattle.station.specs.Variable.{part_of}
use Rattle.station.specs.Calls.{steps_of}
use Rattle.station.proofs.Cases.{get_or-among}
use Rattle.station.specs.Steps.{Once, EachOnce}
use Rattle.station.proofs.Registers.{mentions-once, mentioned, weight_in_lem}
use Rattle.station.proofs.Wired.{count-is}

registers-once : (t : Tables) (part : Part) (v : ℕ) → Once (registers_of t part v)
unfolding registers_of
registers-once t part v = mentions-once (bits_of t part v)

pub each-once : (t : Tables) (part : Part) (v : ℕ) → EachOnce t part v
each-once t part v = record { once = registers-once t part v; every = mentioned t part v; only = weight_in_lem t part v }

-- two of a list without repeats, at different steps, are different
pub once-apart : (l : List ℕ) (i k : ℕ) → Once l → i < k → k < length l → get_or l k 0 ≡ get_or l i 0 → ⊥
once-apart [] i k once hi hk e = not-suc-le-zero hk
once-apart (s ∷ l) i zero once hi hk e = not-suc-le-zero hi
once-apart (s ∷ l) zero (suc k) once hi hk e = once.0 (subst (λ (q : ℕ). Among q l) e (get_or-among l k (le_of_suc-le-suc hk)))
once-apart (s ∷ l) (suc i) (suc k) once hi hk e = once-apart l i k once.1 (le_of_suc-le-suc hi) (le_of_suc-le-suc hk) e

-- each piece adds at most one
few-registers : (vs : List ℕ) (part : Wired.BitList) (n : ℕ) → length (O.registers_to vs part n) ≤ n
unfolding O.registers_to
few-registers vs part zero = omega arith
few-registers vs part (suc n) = go (O.is_mentioned vs part (piece_of vs part n).register n) (few-registers vs part n)
  where
    go : (b : Bool) → length (O.registers_to vs part n) ≤ n
        → length (O.pick_list b (O.registers_to vs part n) (O.registers_to vs part n ++ ((piece_of vs part n).register ∷ []))) ≤ suc n
    go true h = omega arith
    go false h = omega (arith, length-append (O.registers_to vs part n) ((piece_of vs part n).register ∷ []))

pieces-few : (t : Tables) (part : Part) (v : ℕ) → sound t ≡ true → v < variable_count t → (part_of t.variables v (part_no part)).count ≤ 8
unfolding sound variable_count
pieces-few t part v ok hv = sound-count t.parameters t.registers t.variables ok part v hv

pub at-most-8 : (t : Tables) (part : Part) (v : ℕ) → sound t ≡ true → v < variable_count t → steps_of t part v ≤ 8
at-most-8 t part v ok hv =
    let made = part_of t.variables v (part_no part) in
    let few = few-registers t.variables made made.count in
    let pieces = pieces-few t part v ok hv in
    omega (arith, count-is t ok part v hv)
