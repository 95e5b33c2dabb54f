-- What lies past the stated sizes of the tables says nothing: tables that are good so far are so with anything behind
-- them. Assumes nothing.
use Prim.Native.Nat.{ℕ, suc, ◌+◌, ◌-◌, ◌*◌, ◌≤◌, ◌<◌}
use native.Mathlib.Omega.{arith}
use mathlib.Core.Path.{◌≡◌, refl, sym, ap, ap₂, ◌∙◌}
use mathlib.Core.Bool.{Bool, true, false, ◌&&◌, ◌||◌, not}
use mathlib.Core.List.{List, ◌++◌}
use lib.Dec.{eqb, leb, ltb}
use lib.ListN.{length, get_or, get_or-append}
use borrow.Author.Tests.{leb-true, ltb-true}
use Rattle.bits.specs.Bits.{bit}
use Rattle.tables.specs.Every.{every, some, zeros}
use Rattle.tables.specs.Marks.{has}
use Rattle.tables.specs.Words.{count_of, parameter_at, range_at, range_count, register_part, register_part_in, register_width, variable_at}
use Rattle.tables.specs.Tables.{range_of}
use Rattle.bits.specs.Widths.{is_width, widest}
use Rattle.tables.specs.Rules.{as_wide, width_kept, range_holds, offset_in, placed, masks_fit, parameter_shape, register_part_shape, register_shape, register_fault, variable_shape, covered}
use Rattle.tables.specs.Sound.{parameter_good, register_good, variable_good}
use Rattle.tables.proofs.Laws.{every-at, every-is, every-same, some_same}
use Rattle.tables.proofs.ZeroLaws.{zeros-at, zeros-are}
use Rattle.tables.proofs.SameLaws.{Alike, parameter-same, register-same, variable-same, variable_shape-same, shape-few, part_bits-same}
use Rattle.tables.proofs.Growth.{SoFar, variable-kept}
use Rattle.logic.proofs.Tests.{and_left, and_right}

-- ---- a register keeps its rules where the words of the parameters stay
module _ (a b rs : List ℕ) (same_count : count_of a ≡ count_of b) (same : Alike (parameter_at (count_of a)) a b) (few : (j : ℕ) → j < count_of a → range_count b j ≤ 16) where
  offset-same : (j offset : ℕ) → j < count_of a → offset_in a j offset ≡ offset_in b j offset
  unfolding offset_in
  offset-same j offset l =
      ap (λ (n : ℕ). some n (λ k. range_holds offset (range_of a j k))) (same (parameter_at j + 3) (omega arith) (omega arith))
      ∙ some_same (range_count b j) _ _ (λ k m.
      let f = few j l in
      rw (same (range_at j k) (omega arith) (omega arith), same (range_at j k + 1) (omega arith) (omega arith)))

  placed_same : (w at : ℕ) → register_part_shape a rs w at ≡ true → placed a (register_part_in rs at) ≡ placed b (register_part_in rs at)
  unfolding placed register_part_shape
  placed_same w at shape = go (eqb (get_or rs at 0) 1) refl
    where
      go : (t : Bool) → eqb (get_or rs at 0) 1 ≡ t → placed a (register_part_in rs at) ≡ placed b (register_part_in rs at)
      go true e =
          let there : (ltb (get_or rs (at + 1) 0) (count_of a) && masks_fit w (register_part_in rs at)) ≡ true = sym (rw e) ∙ shape in
          rw e (offset-same (get_or rs (at + 1) 0) (get_or rs (at + 2) 0) (ltb-true _ _ (and_left (ltb (get_or rs (at + 1) 0) (count_of a)) _ there)))
      go false e = rw e

  -- 12: so is the width of the parameter
  wide-same : (w at : ℕ) → register_part_shape a rs w at ≡ true → as_wide a (register_part_in rs at) w ≡ as_wide b (register_part_in rs at) w
  unfolding as_wide register_part_shape
  wide-same w at shape = go (eqb (get_or rs at 0) 1) refl
    where
      go : (t : Bool) → eqb (get_or rs at 0) 1 ≡ t → as_wide a (register_part_in rs at) w ≡ as_wide b (register_part_in rs at) w
      go true e =
          let there : (ltb (get_or rs (at + 1) 0) (count_of a) && masks_fit w (register_part_in rs at)) ≡ true = sym (rw e) ∙ shape in
          let l = ltb-true (get_or rs (at + 1) 0) (count_of a) (and_left (ltb (get_or rs (at + 1) 0) (count_of a)) _ there) in
          rw (e, same (parameter_at (get_or rs (at + 1) 0) + 2) (omega arith) (omega arith))
      go false e = rw e

  register-kept : (i : ℕ) → register_good a rs i ≡ true → register_good b rs i ≡ true
  unfolding register_good register_shape register_fault register_part_shape width_kept
  register-kept i good =
      let shape : register_shape a rs i ≡ true = and_left (register_shape a rs i) _ good in
      let w = register_width rs i in
      let both = and_left (register_part_shape a rs w (register_part i 0) && register_part_shape a rs w (register_part i 1)) _ (and_right (is_width w) _ shape) in
      let first = and_left (register_part_shape a rs w (register_part i 0)) _ both in
      let second = and_right (register_part_shape a rs w (register_part i 0)) _ both in
      rw (
        ← placed_same w (register_part i 0) first,
        ← placed_same w (register_part i 1) second,
        ← wide-same w (register_part i 0) first,
        ← wide-same w (register_part i 1) second,
        ← same_count,
      ) good

-- ---- any words behind
module _ (ps rs vs : List ℕ) (x y z : List ℕ) (s : SoFar ps rs vs) (p-long : 577 ≤ length ps) (r-long : 961 ≤ length rs) (v-long : 7553 ≤ length vs)
    (p-few : count_of ps ≤ 16) (r-few : count_of rs ≤ 64) (v-few : count_of vs ≤ 128) where
  p-word : (k : ℕ) → k < 577 → get_or ps k 0 ≡ get_or (ps ++ x) k 0
  p-word k l = sym (get_or-append ps x 0 k (omega arith))

  r-word : (k : ℕ) → k < 961 → get_or rs k 0 ≡ get_or (rs ++ y) k 0
  r-word k l = sym (get_or-append rs y 0 k (omega arith))

  v-word : (k : ℕ) → k < 7553 → get_or vs k 0 ≡ get_or (vs ++ z) k 0
  v-word k l = sym (get_or-append vs z 0 k (omega arith))

  pub p-count : count_of ps ≡ count_of (ps ++ x)
  p-count = p-word 0 (omega arith)

  pub r-count : count_of rs ≡ count_of (rs ++ y)
  r-count = r-word 0 (omega arith)

  pub v_count : count_of vs ≡ count_of (vs ++ z)
  v_count = v-word 0 (omega arith)

  parameter-past : (i : ℕ) → i < count_of ps → parameter_good (ps ++ x) i ≡ true
  parameter-past i l =
      sym (parameter-same ps (ps ++ x) i (λ k g h. p-word k (omega arith))) ∙ every-at (count_of ps) (parameter_good ps) s.parameters i l

  ranges-few : (j : ℕ) → j < count_of ps → range_count (ps ++ x) j ≤ 16
  unfolding parameter_good parameter_shape
  ranges-few j l =
      let shape : parameter_shape (ps ++ x) j ≡ true = and_left (parameter_shape (ps ++ x) j) _ (parameter-past j l) in
      leb-true _ _ (and_left (leb (range_count (ps ++ x) j) 16) _ shape)

  register-past : (i : ℕ) → i < count_of rs → register_good (ps ++ x) (rs ++ y) i ≡ true
  register-past i l =
      sym (register-same (ps ++ x) rs (rs ++ y) i (λ k g h. r-word k (omega arith)))
      ∙ register-kept ps (ps ++ x) rs p-count (λ k g h. p-word k (omega arith)) ranges-few i (every-at (count_of rs) (register_good ps rs) s.registers i l)

  shape-here : (v : ℕ) → v < count_of vs → variable_shape vs v ≡ true
  unfolding variable_good
  shape-here v l = and_left (variable_shape vs v) _ (every-at (count_of vs) (variable_good rs vs) s.variables v l)

  v-alike : (v : ℕ) → v < count_of vs → Alike (variable_at (suc v)) vs (vs ++ z)
  v-alike v l k g h = v-word k (omega arith)

  shape-past : (v : ℕ) → v < count_of vs → variable_shape (vs ++ z) v ≡ true
  shape-past v l = sym (variable_shape-same vs (vs ++ z) v (v-alike v l)) ∙ shape-here v l

  variable-past : (v : ℕ) → v < count_of vs → variable_good (rs ++ y) (vs ++ z) v ≡ true
  variable-past v l =
      sym (variable-same vs (vs ++ z) v (v-alike v l) (λ u m. shape-past u (omega arith)) (rs ++ y))
      ∙ variable-kept rs (rs ++ y) vs (let e = r-count in omega arith) (λ k g h. r-word k (omega arith)) v
      (every-at (count_of vs) (variable_good rs vs) s.variables v l)

  every-past : {n m : ℕ} (p : ℕ → Bool) → n ≡ m → ((i : ℕ) → i < n → p i ≡ true) → every m p ≡ true
  every-past {n} {m} p e h = every-is m p (λ i l. h i (omega arith))

  zeros-past : (t w : List ℕ) (stride size : ℕ) → count_of t ≡ count_of w → ((k : ℕ) → k < size + 1 → get_or t k 0 ≡ get_or w k 0)
      → zeros t (stride * count_of t + 1) (size - stride * count_of t) ≡ true → zeros w (stride * count_of w + 1) (size - stride * count_of w) ≡ true
  zeros-past t w stride size e word h =
      rw (← e)
      (zeros-are w (stride * count_of t + 1) (size - stride * count_of t) (λ k l.
      sym (word (stride * count_of t + 1 + k) (omega arith)) ∙ zeros-at t (stride * count_of t + 1) (size - stride * count_of t) h k l))

  pub so_far-past : SoFar (ps ++ x) (rs ++ y) (vs ++ z)
  so_far-past =
      record {
        parameters = every-past (parameter_good (ps ++ x)) p-count parameter-past;
        registers = every-past (register_good (ps ++ x) (rs ++ y)) r-count register-past;
        variables = every-past (variable_good (rs ++ y) (vs ++ z)) v_count variable-past;
        blank-parameters = zeros-past ps (ps ++ x) 36 576 p-count p-word s.blank-parameters;
        blank-registers = zeros-past rs (rs ++ y) 15 960 r-count r-word s.blank-registers;
        blank-variables = zeros-past vs (vs ++ z) 59 7552 v_count v-word s.blank-variables;
      }

  -- rule 16
  covered_same : (p i : ℕ) → p < 2 → i < count_of rs → covered rs vs (count_of vs) p i ≡ covered (rs ++ y) (vs ++ z) (count_of vs) p i
  unfolding covered
  covered_same p i h l =
      every-same widest _ _ (λ b m.
      ap₂ (λ (d : ℕ) (t : Bool). not (bit b d) || t) (r-word (register_part i p + 3) (omega arith))
      (some_same (count_of vs) _ _ (λ v k.
      ap (has (64 * i + b)) (part_bits-same vs (vs ++ z) v (v-alike v k) v p (omega arith) h (shape-few (vs ++ z) v p h (shape-past v k))))))

  pub covers-past : every (count_of rs) (λ i. covered rs vs (count_of vs) 0 i && covered rs vs (count_of vs) 1 i) ≡ true
      → every (count_of (rs ++ y)) (λ i. covered (rs ++ y) (vs ++ z) (count_of (vs ++ z)) 0 i && covered (rs ++ y) (vs ++ z) (count_of (vs ++ z)) 1 i) ≡ true
  covers-past h =
      rw (← r-count, ← v_count)
      (sym (every-same (count_of rs) _ _ (λ i l. ap₂ ◌&&◌ (covered_same 0 i (omega arith) l) (covered_same 1 i (omega arith) l))) ∙ h)
