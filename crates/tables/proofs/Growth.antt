-- Tables that grow entry by entry: what holds of the entries so far, what one entry more needs, and that in the end the
-- tables are sound. A loop appends entry n, has it judged (`parameter_fault`, `register_fault`, `variable_fault` answer
-- 0), and goes on.
use Prim.Native.Nat.{ℕ, zero, suc, ◌+◌, ◌-◌, ◌*◌, ◌<◌, ◌≤◌}
use native.Mathlib.Omega.{arith}
use mathlib.Core.Path.{◌≡◌, refl, sym, ap, ◌∙◌, subst}
use mathlib.Core.Bool.{Bool, true, ◌&&◌, cond}
use mathlib.Core.Logic.{⊎_elim}
use mathlib.Core.List.{List}
use native.Mathlib.Nat.{eq-or-lt_of_le}
use lib.Dec.{eqb, leb, ltb}
use lib.ListN.{get_or, length}
use borrow.Author.Tests.{ltb-true, lt-ltb}
use Rattle.bits.specs.Widths.{widest}
use Rattle.tables.specs.Every.{every, zeros}
use Rattle.tables.specs.Marks.{distinct}
use Rattle.tables.specs.Tables.{count_of, part_bits, piece_at, piece_in, register_at, register_part, register_part_in, variable_at, variable_part, variable_part_in}
use Rattle.tables.specs.Words.{piece_count, piece_high, piece_low, piece_register}
use Rattle.tables.specs.Rules.{covered, mapped_before, on_dots, own_fault, parameter_fault, parameter_shape, part_maps, piece_fits, register_fault, register_shape, trigger_shared, type_fits, variable_fault, variable_shape, volatile_fits}
use Rattle.tables.specs.Scan.{Before, Mapped}
use Rattle.tables.specs.Sound.{parameter_good, register_good, rest_zero, rules_kept, shapes_fit, sound, tables_fit, variable_good}
use Rattle.tables.proofs.Laws.{every-at, every-is, every-and, every-same}
use Rattle.tables.proofs.ZeroLaws.{zeros-at, zeros-are}
use Rattle.tables.proofs.BelowLaws.{own-maps}
use Rattle.tables.proofs.MapLaws.{map_same}
use Rattle.tables.proofs.SoundLaws.{fault-parts}
use Rattle.tables.proofs.SameLaws.{Alike, parameter-same, register-same, variable-same, variable_shape-same, shape-few, part_enters-same, part-narrow-same}
use Rattle.logic.proofs.Tests.{and_left, and_right}

-- a table with one entry more, of `stride` words: the count is one higher, and only that entry's words are new
pub record Added (stride : ℕ) (a b : List ℕ) : Type 0 where
  pub count : count_of b ≡ count_of a + 1
  pub before : Alike (stride * count_of a + 1) a b
  pub after : (k : ℕ) → stride * count_of a + 1 + stride ≤ k → get_or b k 0 ≡ get_or a k 0

-- every entry so far is as refusal 20 wants it, and what is not used is zero
pub record SoFar (ps rs vs : List ℕ) : Type 0 where
  pub parameters : every (count_of ps) (parameter_good ps) ≡ true
  pub registers : every (count_of rs) (register_good ps rs) ≡ true
  pub variables : every (count_of vs) (variable_good rs vs) ≡ true
  pub blank-parameters : zeros ps (36 * count_of ps + 1) (576 - 36 * count_of ps) ≡ true
  pub blank-registers : zeros rs (15 * count_of rs + 1) (960 - 15 * count_of rs) ≡ true
  pub blank-variables : zeros vs (59 * count_of vs + 1) (7552 - 59 * count_of vs) ≡ true

-- ---- at the start: tables of zeros
empty : (t : List ℕ) (size : ℕ) → zeros t 0 (size + 1) ≡ true → count_of t ≡ 0
empty t size h = zeros-at t 0 (size + 1) h 0 (omega arith)

none : (p : ℕ → Bool) (n : ℕ) → n ≡ 0 → every n p ≡ true
unfolding every
none p zero e = refl
none p (suc n) e = absurd (omega arith)

blank-all : (t : List ℕ) (stride size : ℕ) → zeros t 0 (size + 1) ≡ true → zeros t (stride * count_of t + 1) (size - stride * count_of t) ≡ true
blank-all t stride size h =
    rw (empty t size h) (zeros-are t (stride * 0 + 1) (size - stride * 0) (λ k l. let e : stride * 0 + 1 + k ≡ 0 + (k + 1) = omega arith in
    ap (λ (j : ℕ). get_or t j 0) e ∙ zeros-at t 0 (size + 1) h (k + 1) (omega arith)))

pub so_far-none : (ps rs vs : List ℕ) → zeros ps 0 577 ≡ true → zeros rs 0 961 ≡ true → zeros vs 0 7553 ≡ true → SoFar ps rs vs
so_far-none ps rs vs p r v =
    record {
      parameters = none (parameter_good ps) (count_of ps) (empty ps 576 p);
      registers = none (register_good ps rs) (count_of rs) (empty rs 960 r);
      variables = none (variable_good rs vs) (count_of vs) (empty vs 7552 v);
      blank-parameters = blank-all ps 36 576 p;
      blank-registers = blank-all rs 15 960 r;
      blank-variables = blank-all vs 59 7552 v;
    }

-- ---- one entry more
-- an entry of the longer table is one of those before, or the new one
every-added : {n m : ℕ} (p q : ℕ → Bool) → m ≡ n + 1 → every n p ≡ true → ((i : ℕ) → i < n → p i ≡ q i) → q n ≡ true → every m q ≡ true
every-added {n} {m} p q e all same fresh =
    every-is m q (λ i l.
    ⊎_elim (λ (h : i ≡ n). subst (λ (j : ℕ). q j ≡ true) (sym h) fresh) (λ (h : i < n). sym (same i h) ∙ every-at n p all i h)
    (eq-or-lt_of_le (let l' : i ≤ n = omega arith in l')))

blank-added : (stride size : ℕ) (a b : List ℕ) → Added stride a b → zeros a (stride * count_of a + 1) (size - stride * count_of a) ≡ true
    → zeros b (stride * count_of b + 1) (size - stride * count_of b) ≡ true
blank-added stride size a b added h =
    let n = count_of a in
    let more : stride * (n + 1) ≡ stride * n + stride = omega arith in
    rw added.count (zeros-are b (stride * (n + 1) + 1) (size - stride * (n + 1)) (λ k l.
    let e : stride * (n + 1) + 1 + k ≡ stride * n + 1 + (stride + k) = omega arith in
    added.after (stride * (n + 1) + 1 + k) (omega arith)
    ∙ ap (λ (j : ℕ). get_or a j 0) e
    ∙ zeros-at a (stride * n + 1) (size - stride * n) h (stride + k) (omega arith)))

-- a parameter: they all come before the first register
pub parameter-added : {a b : List ℕ} (rs vs : List ℕ) → SoFar a rs vs → count_of rs ≡ 0 → count_of vs ≡ 0 → Added 36 a b
    → parameter_good b (count_of a) ≡ true → SoFar b rs vs
parameter-added {a} {b} rs vs s no_register no-variable added good =
    record {
      parameters = every-added (parameter_good a) (parameter_good b) added.count s.parameters
          (λ i l. parameter-same a b i (λ k h g. added.before k h (omega arith))) good;
      registers = none (register_good b rs) (count_of rs) no_register;
      variables = s.variables;
      blank-parameters = blank-added 36 576 a b added s.blank-parameters;
      blank-registers = s.blank-registers;
      blank-variables = s.blank-variables;
    }

-- ---- a variable keeps its rules when registers are added
module _ (a b vs : List ℕ) (more : count_of a ≤ count_of b) (same : Alike (register_at (count_of a)) a b) where
  dots-same : (p r low n : ℕ) → p < 2 → r < count_of a → on_dots (register_part_in a (register_part r p)) low n ≡ on_dots (register_part_in b (register_part r p)) low n
  unfolding on_dots
  dots-same p r low n h l = rw (same (register_part r p) (omega arith) (omega arith), same (register_part r p + 3) (omega arith) (omega arith))

  piece-kept : (p piece : ℕ) → p < 2 → piece_fits a p (piece_in vs piece) ≡ true → piece_fits b p (piece_in vs piece) ≡ true
  unfolding piece_fits
  piece-kept p piece h fits =
      let r = piece_register vs piece in
      let low = and_right (ltb (piece_high vs piece) widest) _ fits in
      let register = and_right (leb (piece_low vs piece) (piece_high vs piece)) _ low in
      let there : r < count_of a = ltb-true r (count_of a) (and_left (ltb r (count_of a)) _ register) in
      let dots = and_right (ltb r (count_of a)) _ register in
      rw (and_left (ltb (piece_high vs piece) widest) _ fits, and_left (leb (piece_low vs piece) (piece_high vs piece)) _ low, lt-ltb r (count_of b) (omega arith))
      (sym (dots-same p r (piece_low vs piece) (piece_high vs piece + 1 - piece_low vs piece) h there) ∙ dots)

  maps-kept : (p at : ℕ) → p < 2 → part_maps a p (variable_part_in vs at) ≡ true → part_maps b p (variable_part_in vs at) ≡ true
  unfolding part_maps
  maps-kept p at h maps =
      let n = piece_count vs at in
      let few = leb (length (part_bits (variable_part_in vs at))) widest in
      let pieces : List ℕ → Bool = λ rs. every n (λ k. piece_fits rs p (piece_in vs (piece_at at k))) in
      let front = and_left (pieces a && distinct (part_bits (variable_part_in vs at))) few maps in
      let kept : pieces b ≡ true = every-is n _ (λ k l. piece-kept p (piece_at at k) h (every-at n _ (and_left (pieces a) (distinct (part_bits (variable_part_in vs at))) front) k l)) in
      rw (kept, and_right (pieces a) (distinct (part_bits (variable_part_in vs at))) front, and_right (pieces a && distinct (part_bits (variable_part_in vs at))) few maps)

  own-kept : (v : ℕ) → eqb (own_fault a vs v) 0 ≡ true → eqb (own_fault b vs v) 0 ≡ true
  unfolding own_fault
  own-kept v h =
      let m : List ℕ → ℕ → Bool = λ rs p. part_maps rs p (variable_part_in vs (variable_part v p)) in
      let was = own-maps a vs v h in
      let is : (m b 0 && m b 1) ≡ true = rw (maps-kept 0 (variable_part v 0) (omega arith) (and_left (m a 0) (m a 1) was), maps-kept 1 (variable_part v 1) (omega arith) (and_right (m a 0) (m a 1) was)) in
      ap (λ (c : Bool). eqb (cond c (cond (type_fits vs v) (cond (volatile_fits vs v) 0 13) 12) 11) 0) (is ∙ sym was) ∙ h

  pub variable-kept : (v : ℕ) → variable_good a vs v ≡ true → variable_good b vs v ≡ true
  unfolding variable_good variable_fault
  variable-kept v good =
      let parts = fault-parts (own_fault a vs v) (mapped_before vs 0 v) (mapped_before vs 1 v) (trigger_shared vs 0 v) (trigger_shared vs 1 v) in
      let parts' = fault-parts (own_fault b vs v) (mapped_before vs 0 v) (mapped_before vs 1 v) (trigger_shared vs 0 v) (trigger_shared vs 1 v) in
      let fault = sym parts ∙ and_right (variable_shape vs v) _ good in
      rw (and_left (variable_shape vs v) _ good, parts', own-kept v (and_left (eqb (own_fault a vs v) 0) _ fault), and_right (eqb (own_fault a vs v) 0) _ fault)

pub register-added : (ps : List ℕ) {a b : List ℕ} (vs : List ℕ) → SoFar ps a vs → Added 15 a b → register_good ps b (count_of a) ≡ true → SoFar ps b vs
register-added ps {a} {b} vs s added good =
    record {
      parameters = s.parameters;
      registers = every-added (register_good ps a) (register_good ps b) added.count s.registers
          (λ i l. register-same ps a b i (λ k h g. added.before k h (omega arith))) good;
      variables = every-is (count_of vs) (variable_good b vs) (λ v l.
          variable-kept a b vs (let e = added.count in omega arith) added.before v (every-at (count_of vs) (variable_good a vs) s.variables v l));
      blank-parameters = s.blank-parameters;
      blank-registers = blank-added 15 960 a b added s.blank-registers;
      blank-variables = s.blank-variables;
    }

-- ---- a variable
good-shape : (rs vs : List ℕ) (v : ℕ) → variable_good rs vs v ≡ true → variable_shape vs v ≡ true
unfolding variable_good
good-shape rs vs v h = and_left (variable_shape vs v) _ h

-- the shapes of the variables before, in the longer table
shape-kept : (rs a b : List ℕ) (n : ℕ) → Alike (variable_at n) a b → every n (variable_good rs a) ≡ true → (u : ℕ) → u < n → variable_shape b u ≡ true
shape-kept rs a b n same all u l =
    sym (variable_shape-same a b u (λ k h g. same k h (omega arith))) ∙ good-shape rs a u (every-at n (variable_good rs a) all u l)

pub variable-added : (ps rs : List ℕ) {a b : List ℕ} → SoFar ps rs a → Added 59 a b → variable_good rs b (count_of a) ≡ true → SoFar ps rs b
variable-added ps rs {a} {b} s added good =
    record {
      parameters = s.parameters;
      registers = s.registers;
      variables = every-added (variable_good rs a) (variable_good rs b) added.count s.variables
          (λ v l. variable-same a b v (λ k h g. added.before k h (omega arith))
          (λ u m. shape-kept rs a b (count_of a) added.before s.variables u (omega arith)) rs) good;
      blank-parameters = s.blank-parameters;
      blank-registers = s.blank-registers;
      blank-variables = blank-added 59 7552 a b added s.blank-variables;
    }

-- ---- the maps of the variables before entry n, when words behind them change
pub mapped-same : (a b : List ℕ) (n : ℕ) {reads writes : List ℕ} → every n (variable_shape a) ≡ true → Alike (variable_at n) a b
    → Mapped a n reads writes → Mapped b n reads writes
mapped-same a b n shapes same m = record { read = before_same 0 (omega arith) m.read; write = before_same 1 (omega arith) m.write }
  where
    near : (u : ℕ) → u < n → Alike (variable_at (suc u)) a b
    near u l k g o = same k g (omega arith)

    few : (u p : ℕ) → p < 2 → u < n → piece_count b (variable_part u p) ≤ 8
    few u p h l = shape-few b u p h (sym (variable_shape-same a b u (near u l)) ∙ every-at n (variable_shape a) shapes u l)

    before_same : (p : ℕ) → p < 2 → {map : List ℕ} → Before a p n map → Before b p n map
    before_same p h k =
        record {
          is = k.is ∙ map_same 4096 _ _ n (λ u l. part_enters-same a b u (near u l) u p (omega arith) h (few u p h l));
          narrows = sym (every-same n _ _ (λ u l. part-narrow-same a b u (near u l) u p (omega arith) h (few u p h l))) ∙ k.narrows;
        }

-- ---- at the end
-- what was built entry by entry, with counts in range and every dot mapped, is sound: the loader's "accepted" implies
-- it
pub so_far-sound : (ps rs vs : List ℕ) → tables_fit ps rs vs ≡ true → SoFar ps rs vs
    → every (count_of rs) (λ i. covered rs vs (count_of vs) 0 i && covered rs vs (count_of vs) 1 i) ≡ true → sound ps rs vs ≡ true
unfolding sound rest_zero shapes_fit rules_kept parameter_good register_good variable_good
so_far-sound ps rs vs fit s covers =
    let p = both (count_of ps) (parameter_shape ps) (λ i. eqb (parameter_fault ps i) 0) s.parameters in
    let r = both (count_of rs) (register_shape ps rs) (λ i. eqb (register_fault ps rs i) 0) s.registers in
    let v = both (count_of vs) (variable_shape vs) (λ i. eqb (variable_fault rs vs i) 0) s.variables in
    rw (fit, s.blank-parameters, s.blank-registers, s.blank-variables, p.0, p.1, r.0, r.1, v.0, v.1, covers)
  where
    both : (n : ℕ) (f g : ℕ → Bool) → every n (λ i. f i && g i) ≡ true → (every n f ≡ true) × (every n g ≡ true)
    both n f g h =
        let two = sym (every-and n f g) ∙ h in
        (and_left (every n f) (every n g) two, and_right (every n f) (every n g) two)
