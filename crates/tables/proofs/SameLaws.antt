-- What is judged of entry i depends on the words up to its end alone (and, of a register, on the parameters; of a
-- variable, on the registers):
-- two tables with the same words there are judged alike. So what was judged when an entry was appended holds when
-- others follow.
use Prim.Native.Nat.{ℕ, zero, suc, ◌+◌, ◌-◌, ◌*◌, ◌<◌, ◌≤◌}
use native.Mathlib.Omega.{arith}
use mathlib.Core.Path.{◌≡◌, refl, sym, ap, ap₂, ◌∙◌}
use mathlib.Core.Bool.{Bool, true, false, ◌&&◌, ◌||◌, cond}
use mathlib.Core.List.{List, [], ◌∷◌, ◌++◌}
use lib.Dec.{eqb, leb, ltb}
use lib.ListN.{get_or, length}
use borrow.Author.Tests.{leb-true}
use Rattle.bits.specs.Widths.{is_width, widest}
use Rattle.tables.specs.Every.{every, zeros}
use Rattle.tables.specs.Marks.{distinct, joined, meets}
use Rattle.tables.specs.Tables.{bits_of, kind_of, mentioned_by, parameter_at, piece_at, piece_bits, piece_in, range_at, range_count, range_in, register_at, register_part, register_part_in, register_part_of, variable_at, variable_part, variable_part_in, volatile_of, width_of}
use Rattle.tables.specs.Words.{piece_count, piece_high, piece_register, present, trigger_of}
use Rattle.tables.specs.Rules.{as_wide, clashes, mapped_before, own_fault, parameter_fault, parameter_shape, part_maps, piece_fits, place_taken, placed, range_fits, ranges_fit, register_fault, register_part_shape, register_shape, told_apart, trigger_shared, type_fits, variable_fault, variable_part_shape, variable_shape, volatile_fits, width_fits, width_kept}
use Rattle.tables.specs.Scan.{enters_of, narrow, piece_enters}
use Rattle.tables.specs.Sound.{parameter_good, register_good, variable_good}
use Rattle.tables.proofs.Laws.{every-same, some_same}
use Rattle.tables.proofs.ZeroLaws.{zeros-every, zeros-at}
use Rattle.logic.proofs.Tests.{and_left, and_right, and_same}

-- the same words before word n, the count aside
abbrev pub Alike : ℕ → List ℕ → List ℕ → Type 0
Alike n a b = (k : ℕ) → 1 ≤ k → k < n → get_or a k 0 ≡ get_or b k 0

-- a test that counts only where another holds
zeros-same : (a b : List ℕ) (from n : ℕ) → ((k : ℕ) → k < n → get_or a (from + k) 0 ≡ get_or b (from + k) 0) → zeros a from n ≡ zeros b from n
zeros-same a b from n same =
    sym (zeros-every a from n) ∙ every-same n _ _ (λ k l. ap (λ (w : ℕ). eqb w 0) (same k l)) ∙ zeros-every b from n

joined_same : (f g : ℕ → List ℕ) (n : ℕ) → ((k : ℕ) → k < n → f k ≡ g k) → joined f n ≡ joined g n
unfolding joined
joined_same f g zero h = refl
joined_same f g (suc n) h = ap₂ ◌++◌ (joined_same f g n (λ k l. h k (omega arith))) (h n (omega arith))

-- ---- parameters
module _ (a b : List ℕ) (i : ℕ) (same : Alike (parameter_at (suc i)) a b) where
  word-i : (j : ℕ) → j < 36 → get_or a (parameter_at i + j) 0 ≡ get_or b (parameter_at i + j) 0
  word-i j l = same (parameter_at i + j) (omega arith) (omega arith)

  pub parameter_shape-same : parameter_shape a i ≡ parameter_shape b i
  unfolding parameter_shape
  parameter_shape-same =
      let m = range_count b i in
      ap (λ (n : ℕ). leb n 16 && (leb 1 n && zeros a (range_at i n) (32 - 2 * n))) (word-i 3 (omega arith))
      ∙ and_same (leb m 16) (λ few. ap (λ (z : Bool). leb 1 m && z) (zeros-same a b (range_at i m) (32 - 2 * m)
      (λ k l. let h = leb-true m 16 few in same (range_at i m + k) (omega arith) (omega arith))))

  ranges-same : range_count b i ≤ 16 → ranges_fit a i ≡ ranges_fit b i
  unfolding ranges_fit
  ranges-same few =
      ap (λ (n : ℕ). every n (λ k. range_fits (range_in a (range_at i k)))) (word-i 3 (omega arith))
      ∙ every-same (range_count b i) _ _ (λ k l. rw (same (range_at i k) (omega arith) (omega arith), same (range_at i k + 1) (omega arith) (omega arith)))

  pub parameter_fault-same : parameter_shape b i ≡ true → parameter_fault a i ≡ parameter_fault b i
  unfolding parameter_fault parameter_shape
  parameter_fault-same shape =
      let few = leb-true (range_count b i) 16 (and_left (leb (range_count b i) 16) _ shape) in
      ap₂ (λ (r : Bool) (w : ℕ). cond r (cond (is_width w) 0 12) 8) (ranges-same few) (word-i 2 (omega arith))

  pub parameter-same : parameter_good a i ≡ parameter_good b i
  unfolding parameter_good
  parameter-same =
      ap (λ (s : Bool). s && eqb (parameter_fault a i) 0) parameter_shape-same
      ∙ and_same (parameter_shape b i) (λ shape. ap (λ (f : ℕ). eqb f 0) (parameter_fault-same shape))

-- ---- registers
module _ (ps a b : List ℕ) (i : ℕ) (same : Alike (register_at (suc i)) a b) where
  -- the words of part p of a register up to i
  part_word : (j p k : ℕ) → j ≤ i → p < 2 → k < 6 → get_or a (register_part j p + k) 0 ≡ get_or b (register_part j p + k) 0
  part_word j p k l h m = same (register_part j p + k) (omega arith) (omega arith)

  part_present : (j p : ℕ) → j ≤ i → p < 2 → get_or a (register_part j p) 0 ≡ get_or b (register_part j p) 0
  part_present j p l h = same (register_part j p) (omega arith) (omega arith)

  wide-same : get_or a (register_at i + 2) 0 ≡ get_or b (register_at i + 2) 0
  wide-same = same (register_at i + 2) (omega arith) (omega arith)

  part-shape-same : (w p : ℕ) → p < 2 → register_part_shape ps a w (register_part i p) ≡ register_part_shape ps b w (register_part i p)
  unfolding register_part_shape
  part-shape-same w p h =
      rw (
        part_present i p (omega arith) h,
        part_word i p 1 (omega arith) h (omega arith),
        part_word i p 3 (omega arith) h (omega arith),
        part_word i p 4 (omega arith) h (omega arith),
        part_word i p 5 (omega arith) h (omega arith),
        zeros-same a b (register_part i p) 6 (λ k l. part_word i p k (omega arith) h l),
      )

  pub register_shape-same : register_shape ps a i ≡ register_shape ps b i
  unfolding register_shape
  register_shape-same =
      rw (wide-same, part-shape-same _ 0 (omega arith), part-shape-same _ 1 (omega arith), part_present i 0 (omega arith) (omega arith), part_present i 1 (omega arith) (omega arith))

  placed_same : (p : ℕ) → p < 2 → placed ps (register_part_in a (register_part i p)) ≡ placed ps (register_part_in b (register_part i p))
  unfolding placed
  placed_same p h =
      rw (part_present i p (omega arith) h, part_word i p 1 (omega arith) h (omega arith), part_word i p 2 (omega arith) h (omega arith))

  -- two parts that stand at the same words of both lists clash in both, or in neither
  clash-same : (j p : ℕ) → j ≤ i → p < 2 → clashes p (register_part_of a p i) (register_part_of a p j) ≡ clashes p (register_part_of b p i) (register_part_of b p j)
  unfolding told_apart
  clash-same j p l h =
      rw (
        part_word i p 1 (omega arith) h (omega arith),
        part_word i p 2 (omega arith) h (omega arith),
        part_word i p 4 (omega arith) h (omega arith),
        part_word i p 5 (omega arith) h (omega arith),
        part_present j p l h,
        part_word j p 1 l h (omega arith),
        part_word j p 2 l h (omega arith),
        part_word j p 4 l h (omega arith),
        part_word j p 5 l h (omega arith),
      )

  taken-same : (p : ℕ) → p < 2 → place_taken a p i ≡ place_taken b p i
  unfolding place_taken
  taken-same p h =
      ap₂ ◌&&◌ (ap (λ (w : ℕ). eqb w 1) (part_present i p (omega arith) h))
      (some_same i (λ j. clashes p (register_part_of a p i) (register_part_of a p j)) (λ j. clashes p (register_part_of b p i) (register_part_of b p j))
      (λ j l. clash-same j p (omega arith) h))

  as_wide-same : (w p : ℕ) → p < 2 → as_wide ps (register_part_in a (register_part i p)) w ≡ as_wide ps (register_part_in b (register_part i p)) w
  unfolding as_wide
  as_wide-same w p h = rw (part_present i p (omega arith) h, part_word i p 1 (omega arith) h (omega arith))

  kept_same : width_kept ps a i ≡ width_kept ps b i
  unfolding width_kept
  kept_same = rw (wide-same, as_wide-same _ 0 (omega arith), as_wide-same _ 1 (omega arith))

  pub register_fault-same : register_fault ps a i ≡ register_fault ps b i
  unfolding register_fault
  register_fault-same =
      rw (
        placed_same 0 (omega arith),
        placed_same 1 (omega arith),
        taken-same 0 (omega arith),
        taken-same 1 (omega arith),
        kept_same,
      )

  pub register-same : register_good ps a i ≡ register_good ps b i
  unfolding register_good
  register-same = rw (register_shape-same, register_fault-same)

-- ---- variables
-- a part of a fitting shape has at most 8 pieces
pub part-few : (vs : List ℕ) (at : ℕ) → variable_part_shape vs at ≡ true → piece_count vs at ≤ 8
unfolding variable_part_shape
part-few vs at h = go (present vs at) h
  where
    n : ℕ
    n = piece_count vs at

    go : (b : Bool) → cond b (leb n 8 && (leb 1 n && leb (trigger_of vs at) 1 && zeros vs (piece_at at n) (24 - 3 * n))) (zeros vs at 27) ≡ true → piece_count vs at ≤ 8
    go true e = leb-true n 8 (and_left (leb n 8) _ e)
    go false e = let none : piece_count vs at ≡ 0 = zeros-at vs at 27 e 2 (omega arith) in omega arith

pub shape-few : (vs : List ℕ) (v p : ℕ) → p < 2 → variable_shape vs v ≡ true → piece_count vs (variable_part v p) ≤ 8
unfolding variable_shape
shape-few vs v p h shape = go p h
  where
    flags : Bool
    flags = leb (kind_of vs v) 2 && leb (volatile_of vs v) 1

    parts : (flags && variable_part_shape vs (variable_part v 0) && variable_part_shape vs (variable_part v 1)) ≡ true
    parts = and_left _ (present vs (variable_part v 0) || present vs (variable_part v 1)) shape

    go : (p : ℕ) → p < 2 → piece_count vs (variable_part v p) ≤ 8
    go zero h = part-few vs (variable_part v 0) (and_right flags _ (and_left (flags && variable_part_shape vs (variable_part v 0)) _ parts))
    go (suc zero) h = part-few vs (variable_part v 1) (and_right (flags && variable_part_shape vs (variable_part v 0)) _ parts)
    go (suc (suc p)) h = absurd (omega arith)

module _ (a b : List ℕ) (v : ℕ) (same : Alike (variable_at (suc v)) a b) where
  -- the words of part p of a variable up to v
  own-word : (u p k : ℕ) → u ≤ v → p < 2 → k < 27 → get_or a (variable_part u p + k) 0 ≡ get_or b (variable_part u p + k) 0
  own-word u p k l h m = same (variable_part u p + k) (omega arith) (omega arith)

  own-present : (u p : ℕ) → u ≤ v → p < 2 → get_or a (variable_part u p) 0 ≡ get_or b (variable_part u p) 0
  own-present u p l h = same (variable_part u p) (omega arith) (omega arith)

  own-shape-same : (p : ℕ) → p < 2 → variable_part_shape a (variable_part v p) ≡ variable_part_shape b (variable_part v p)
  unfolding variable_part_shape
  own-shape-same p h =
      let at = variable_part v p in
      let m = piece_count b at in
      let flag : Bool → Bool = λ z. leb 1 m && leb (trigger_of b at) 1 && z in
      rw (
        own-present v p (omega arith) h,
        own-word v p 2 (omega arith) h (omega arith),
        own-word v p 1 (omega arith) h (omega arith),
        zeros-same a b at 27 (λ k l. own-word v p k (omega arith) h l),
      )
      (ap (λ (s : Bool). cond (present b at) s (zeros b at 27))
      (and_same (leb m 8) (λ few. ap flag (zeros-same a b (piece_at at m) (24 - 3 * m)
      (λ k l. let e = leb-true m 8 few in same (piece_at at m + k) (omega arith) (omega arith))))))

  pub variable_shape-same : variable_shape a v ≡ variable_shape b v
  unfolding variable_shape
  variable_shape-same =
      rw (
        same (variable_at v + 2) (omega arith) (omega arith),
        same (variable_at v + 4) (omega arith) (omega arith),
        own-shape-same 0 (omega arith),
        own-shape-same 1 (omega arith),
        own-present v 0 (omega arith) (omega arith),
        own-present v 1 (omega arith) (omega arith),
      )

  -- the words of a piece, where the part has at most 8
  piece-word : (u p n k : ℕ) → u ≤ v → p < 2 → n < 8 → k < 3 → get_or a (piece_at (variable_part u p) n + k) 0 ≡ get_or b (piece_at (variable_part u p) n + k) 0
  piece-word u p n k l h m o = same (piece_at (variable_part u p) n + k) (omega arith) (omega arith)

  piece_register_lem : (u p n : ℕ) → u ≤ v → p < 2 → n < 8 → piece_register a (piece_at (variable_part u p) n) ≡ piece_register b (piece_at (variable_part u p) n)
  piece_register_lem u p n l h m = same (piece_at (variable_part u p) n) (omega arith) (omega arith)

  module _ (u p : ℕ) (l : u ≤ v) (h : p < 2) (few : piece_count b (variable_part u p) ≤ 8) where
    abbrev at : ℕ
    at = variable_part u p

    pub part_bits-same : bits_of a p u ≡ bits_of b p u
    part_bits-same =
        ap (λ (n : ℕ). joined (λ k. piece_bits (piece_in a (piece_at at k))) n) (own-word u p 2 l h (omega arith))
        ∙ joined_same _ _ (piece_count b at) (λ n m.
        rw (piece_register_lem u p n l h (omega arith), piece-word u p n 1 l h (omega arith) (omega arith), piece-word u p n 2 l h (omega arith) (omega arith)))

    pub part-registers-same : mentioned_by a p u ≡ mentioned_by b p u
    part-registers-same =
        ap (λ (n : ℕ). joined (λ k. piece_register a (piece_at at k) ∷ []) n) (own-word u p 2 l h (omega arith))
        ∙ joined_same _ _ (piece_count b at) (λ n m. ap (λ (r : ℕ). r ∷ []) (piece_register_lem u p n l h (omega arith)))

    pub part_enters-same : enters_of a p u ≡ enters_of b p u
    part_enters-same =
        ap₂ (λ (t n : ℕ). joined (λ k. piece_enters (cond (eqb t 1) 2 1) (piece_in a (piece_at at k))) n) (own-word u p 1 l h (omega arith)) (own-word u p 2 l h (omega arith))
        ∙ joined_same _ _ (piece_count b at) (λ n m.
        rw (piece_register_lem u p n l h (omega arith), piece-word u p n 1 l h (omega arith) (omega arith), piece-word u p n 2 l h (omega arith) (omega arith)))

    pub part-narrow-same : narrow (variable_part_in a at) ≡ narrow (variable_part_in b at)
    part-narrow-same =
        ap (λ (n : ℕ). every n (λ k. ltb (piece_high a (piece_at at k)) widest)) (own-word u p 2 l h (omega arith))
        ∙ every-same (piece_count b at) _ _ (λ n m. ap (λ (w : ℕ). ltb w widest) (piece-word u p n 1 l h (omega arith) (omega arith)))

    part_maps-same : (rs : List ℕ) → part_maps rs p (variable_part_in a at) ≡ part_maps rs p (variable_part_in b at)
    unfolding part_maps piece_fits
    part_maps-same rs =
        let pieces : ℕ → List ℕ → Bool = λ n t. every n (λ k. piece_fits rs p (piece_in t (piece_at at k))) in
        ap₂ (λ (f : Bool) (bits : List ℕ). f && distinct bits && leb (length bits) widest)
        (ap (λ (n : ℕ). pieces n a) (own-word u p 2 l h (omega arith))
        ∙ every-same (piece_count b at) _ _ (λ n m.
        rw (piece_register_lem u p n l h (omega arith), piece-word u p n 1 l h (omega arith) (omega arith), piece-word u p n 2 l h (omega arith) (omega arith))))
        part_bits-same

  module _ (shapes : (u : ℕ) → u ≤ v → variable_shape b u ≡ true) where
    few-at : (u p : ℕ) → u ≤ v → p < 2 → piece_count b (variable_part u p) ≤ 8
    few-at u p l h = shape-few b u p h (shapes u l)

    width_same : (width p : ℕ) → p < 2 → width_fits width (variable_part_in a (variable_part v p)) ≡ width_fits width (variable_part_in b (variable_part v p))
    unfolding width_fits
    width_same width p h = rw (own-present v p (omega arith) h, part_bits-same v p (omega arith) h (few-at v p (omega arith) h))

    type-same : type_fits a v ≡ type_fits b v
    unfolding type_fits
    type-same =
        rw (
          same (variable_at v + 3) (omega arith) (omega arith),
          same (variable_at v + 2) (omega arith) (omega arith),
          width_same (width_of b v) 0 (omega arith),
          width_same (width_of b v) 1 (omega arith),
        )

    volatile-same : volatile_fits a v ≡ volatile_fits b v
    unfolding volatile_fits
    volatile-same = rw (same (variable_at v + 4) (omega arith) (omega arith), own-present v 0 (omega arith) (omega arith))

    pub own_fault-same : (rs : List ℕ) → own_fault rs a v ≡ own_fault rs b v
    unfolding own_fault
    own_fault-same rs =
        rw (
          part_maps-same v 0 (omega arith) (omega arith) (few-at v 0 (omega arith) (omega arith)) rs,
          part_maps-same v 1 (omega arith) (omega arith) (few-at v 1 (omega arith) (omega arith)) rs,
          type-same,
          volatile-same,
        )

    mapped-same : (p : ℕ) → p < 2 → mapped_before a p v ≡ mapped_before b p v
    unfolding mapped_before
    mapped-same p h =
        some_same v _ _ (λ u l.
        ap₂ meets (part_bits-same v p (omega arith) h (few-at v p (omega arith) h)) (part_bits-same u p (omega arith) h (few-at u p (omega arith) h)))

    shared_same : (p : ℕ) → p < 2 → trigger_shared a p v ≡ trigger_shared b p v
    unfolding trigger_shared
    shared_same p h =
        some_same v _ _ (λ u l.
        rw (
          part-registers-same v p (omega arith) h (few-at v p (omega arith) h),
          part-registers-same u p (omega arith) h (few-at u p (omega arith) h),
          own-word v p 1 (omega arith) h (omega arith),
          own-word u p 1 (omega arith) h (omega arith),
        ))

    pub variable_fault-same : (rs : List ℕ) → variable_fault rs a v ≡ variable_fault rs b v
    unfolding variable_fault
    variable_fault-same rs =
        rw (own_fault-same rs, mapped-same 0 (omega arith), mapped-same 1 (omega arith), shared_same 0 (omega arith), shared_same 1 (omega arith))

    pub variable-same : (rs : List ℕ) → variable_good rs a v ≡ variable_good rs b v
    unfolding variable_good
    variable-same rs = rw (variable_shape-same, variable_fault-same rs)
