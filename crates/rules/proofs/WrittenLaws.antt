-- Words stored one after the other, seen word by word.
-- Assumes nothing.
use Prim.Native.Nat.{ℕ, suc, ◌+◌, ◌≤◌, ◌<◌}
use native.Mathlib.Omega.{arith}
use mathlib.Core.Path.{◌≡◌, refl, ap, ap₂, ◌∙◌}
use mathlib.Core.List.{List, [], ◌∷◌, ◌++◌, append_assoc}
use lib.ListN.{length, get_or, set, take, drop, get_or-append}
use lib.Seq.{sets, sets-eq, length-sets, get_or-append-add, get_or-set_other, length-take-le}
use Rattle.rules.specs.Words.{written}

pub length-written : (t : List ℕ) (at : ℕ) (ws : List ℕ) → length (written t at ws) ≡ length t
unfolding written
length-written t at ws = length-sets t at ws

pub written_at : (t : List ℕ) (at : ℕ) (ws : List ℕ) (k : ℕ) → at + length ws ≤ length t → k < length ws → get_or (written t at ws) (at + k) 0 ≡ get_or ws k 0
unfolding written
written_at t at ws k fits l =
    let front : length (take at t) ≡ at = length-take-le at t (omega arith) in
    let e : at + k ≡ length (take at t) + k = omega arith in
    ap₂ (λ (s : List ℕ) (i : ℕ). get_or s i 0) (sets-eq ws t at fits) e
    ∙ ap (λ (s : List ℕ). get_or s (length (take at t) + k) 0) (append_assoc (take at t) ws (drop (at + length ws) t))
    ∙ get_or-append-add (take at t) (ws ++ drop (at + length ws) t) k 0
    ∙ get_or-append ws (drop (at + length ws) t) 0 k l

pub sets-above : (ws t : List ℕ) (at i : ℕ) → at + length ws ≤ i → get_or (sets t at ws) i 0 ≡ get_or t i 0
sets-above [] t at i l = refl
sets-above (a ∷ ws) t at i l = sets-above ws (set t at a) (suc at) i (omega arith) ∙ get_or-set_other t at i a 0 (λ e. omega arith)

pub written-above : (t : List ℕ) (at : ℕ) (ws : List ℕ) (i : ℕ) → at + length ws ≤ i → get_or (written t at ws) i 0 ≡ get_or t i 0
unfolding written
written-above t at ws i l = sets-above ws t at i l
