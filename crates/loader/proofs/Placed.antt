-- A register whose offsets are good as written is placed by its entry: rule 8 of the entry finds nothing more.
-- Assumes nothing.
use Prim.Native.Nat.{ℕ, zero, suc, ◌+◌, ◌*◌, ◌≤◌, ◌<◌, min}
use native.Mathlib.Omega.{arith}
use native.Mathlib.Nat.{min-eq_left, min-eq_right, le_of_lt}
use mathlib.Core.Path.{◌≡◌, refl, sym, ap, ◌∙◌}
use mathlib.Core.Bool.{Bool, true, false, ◌&&◌, cond, false≢true}
use mathlib.Core.List.{List, [], ◌∷◌, ◌++◌}
use lib.Dec.{eqb, leb, ltb}
use lib.ListN.{length, get_or}
use borrow.Author.Tests.{leb-true, leb-false, lt-leb, ltb-true, not-false}
use Rattle.std.specs.Prelude.{None}
use Rattle.syntax.specs.declared.register.Port.{Port}
use Rattle.syntax.specs.declared.register.Register.{Register}
use Rattle.tables.specs.Every.{every, some}
use Rattle.tables.specs.Tables.{count_of, register_part, register_part_in, register_width, range_count, range_of}
use Rattle.tables.specs.Rules.{range_fits, ranges_fit, range_holds, offset_in, placed, masks_fit, parameter_shape, parameter_fault, register_part_shape}
use Rattle.tables.specs.Sound.{parameter_good}
use Rattle.tables.proofs.Laws.{every-at}
use Rattle.rules.specs.declared.mask.Mask.{Mask}
use Rattle.rules.specs.State.{State}
use Rattle.rules.specs.Names.{index_of}
use Rattle.rules.specs.Words.{word_of, appended}
use Rattle.rules.specs.Register.{natural_of, is_natural, has_part_lem, port_of, part_entry, port_found, part_words, register_entry, bad_offset, register_written}
use Rattle.rules.proofs.FaultLaws.{or-none, if_none, only_none}
use Rattle.rules.proofs.WordLaws.{word-itself}
use Rattle.rules.proofs.AppendLaws.{appended-word}
use Rattle.rules.proofs.RegisterShape as R
use Rattle.logic.proofs.Tests.{and_left, and_right}

-- ---- words that are small are themselves
word-is : (a n : ℕ) → n ≤ 256 → word_of a < n → word_of a ≡ a
unfolding word_of
word-is a n m l = go (leb a 4294967295) refl
  where
    go : (b : Bool) → leb a 4294967295 ≡ b → min a 4294967295 ≡ a
    go true e = min-eq_left (leb-true a 4294967295 e)
    go false e = let z : min a 4294967295 ≡ 4294967295 = min-eq_right (le_of_lt (leb-false a 4294967295 e)) in absurd (omega arith)

some-fails : (n : ℕ) (p : ℕ → Bool) → ((k : ℕ) → k < n → p k ≡ false) → some n p ≡ false
unfolding some
some-fails zero p h = refl
some-fails (suc n) p h = rw (some-fails n p (λ k l. h k (omega arith)), h n (omega arith))

and-false : (a b : Bool) → b ≡ false → (a && b) ≡ false
and-false true b e = e
and-false false b e = refl

fault-fits : (ps : List ℕ) (i : ℕ) → eqb (parameter_fault ps i) 0 ≡ true → ranges_fit ps i ≡ true
unfolding parameter_fault
fault-fits ps i h = go (ranges_fit ps i) refl
  where
    go : (b : Bool) → ranges_fit ps i ≡ b → ranges_fit ps i ≡ true
    go true e = e
    go false e = absurd (false≢true (sym (rw e) ∙ h))

-- an offset in the set of a good parameter is at most 255
offset-few : (ps : List ℕ) (i offset : ℕ) → parameter_good ps i ≡ true → offset_in ps i offset ≡ true → offset ≤ 255
unfolding parameter_good offset_in ranges_fit
offset-few ps i offset good h = go (leb offset 255) refl
  where
    fits : ranges_fit ps i ≡ true
    fits = fault-fits ps i (and_right (parameter_shape ps i) _ good)

    go : (b : Bool) → leb offset 255 ≡ b → offset ≤ 255
    go true e = leb-true offset 255 e
    go false e =
        absurd
        (false≢true
        (sym (some-fails (range_count ps i) (λ k. range_holds offset (range_of ps i k)) (λ k l.
        let high : (range_of ps i k).high ≤ 255 = leb-true (range_of ps i k).high 255 (and_right (leb (range_of ps i k).low (range_of ps i k).high) _ (every-at (range_count ps i) (λ j. range_fits (range_of ps i j)) fits k l)) in
        and-false (leb (range_of ps i k).low offset) (leb offset (range_of ps i k).high) (lt-leb offset (range_of ps i k).high (omega (arith, leb-false offset 255 e)))))
        ∙ h))

-- ---- a part of the table, by its three first words
part_placed : (ps t : List ℕ) (wide at index offset : ℕ) (b : Bool) → every (count_of ps) (parameter_good ps) ≡ true → count_of ps ≤ 16 → register_part_shape ps t wide at ≡ true
    → get_or t (at + 0) 0 ≡ cond b 1 0 → (b ≡ true → (get_or t (at + 1) 0 ≡ word_of index) × (get_or t (at + 2) 0 ≡ word_of offset)) → offset_in ps index offset ≡ true
    → placed ps (register_part_in t at) ≡ true
unfolding placed register_part_shape
part_placed ps t wide at index offset false good few shape f w h =
    let e : at ≡ at + 0 = omega arith in
    let p : get_or t at 0 ≡ 0 = ap (λ (i : ℕ). get_or t i 0) e ∙ f in
    rw p
part_placed ps t wide at index offset true good few shape f w h =
    let e : at ≡ at + 0 = omega arith in
    let p : get_or t at 0 ≡ 1 = ap (λ (i : ℕ). get_or t i 0) e ∙ f in
    let words = w refl in
    let there : (ltb (word_of index) (count_of ps) && masks_fit wide (register_part_in t at)) ≡ true = sym (rw (p, ← words.0)) ∙ shape in
    let below = ltb-true (word_of index) (count_of ps) (and_left (ltb (word_of index) (count_of ps)) _ there) in
    let i : word_of index ≡ index = word-is index (count_of ps) (omega arith) below in
    let few-offset = offset-few ps index offset (every-at (count_of ps) (parameter_good ps) good index (omega arith)) h in
    rw (p, words.0, words.1, i, word-itself offset (omega (arith, few-offset))) h

-- the three first words of each part, in the fifteen of an entry
module _ (x y z i o j q : ℕ) (m l : Mask) where
  abbrev entry : Bool → Bool → List ℕ
  entry b c = (x ∷ y ∷ z ∷ []) ++ part_entry b i o m ++ part_entry c j q l

  read-words : (b c : Bool) → (get_or (entry b c) 3 0 ≡ cond b 1 0) × (b ≡ true → (get_or (entry b c) 4 0 ≡ word_of i) × (get_or (entry b c) 5 0 ≡ word_of o))
  unfolding part_entry
  read-words true c = (refl, λ e. (refl, refl))
  read-words false c = (refl, λ e. absurd (false≢true e))

  write-words : (b c : Bool) → (get_or (entry b c) 9 0 ≡ cond c 1 0) × (c ≡ true → (get_or (entry b c) 10 0 ≡ word_of j) × (get_or (entry b c) 11 0 ≡ word_of q))
  unfolding part_entry
  write-words true true = (refl, λ e. (refl, refl))
  write-words true false = (refl, λ e. absurd (false≢true e))
  write-words false true = (refl, λ e. (refl, refl))
  write-words false false = (refl, λ e. absurd (false≢true e))

module _ (text : List ℕ) (s : State) (r : Register) (none : register_written text s r ≡ None) where
  abbrev ps : List ℕ
  ps = s.parameters

  abbrev n : ℕ
  n = count_of s.registers

  abbrev table : List ℕ
  table = appended 15 s.registers (register_entry text ps r)

  -- 8 is not broken as written
  offset_of_lem : (p : Port) → bad_offset text ps r.place p ≡ None → offset_in ps (index_of (port_found text ps p)) (natural_of p.worth) ≡ true
  unfolding bad_offset
  offset_of_lem p h = and_right (is_natural p.worth) _ (not-false _ (if_none _ 8 _ h))

  offsets : (bad_offset text ps r.place r.first ≡ None) × (r.two ≡ true → bad_offset text ps r.place r.second ≡ None)
  unfolding register_written
  offsets =
      let a = (or-none _ _ none).1 in
      let b = (or-none _ _ a).1 in
      let c = (or-none _ _ b).1 in
      let d = or-none _ _ c in
      (d.0, λ e. only_none r.two _ (or-none _ _ d.1).0 e)

  port-offset : (mark : ℕ) → offset_in ps (index_of (port_found text ps (port_of r mark))) (natural_of (port_of r mark).worth) ≡ true
  unfolding port_of
  port-offset mark = go r.two refl (eqb r.first.mark mark) refl
    where
      go : (b : Bool) → r.two ≡ b → (c : Bool) → eqb r.first.mark mark ≡ c
          → offset_in ps (index_of (port_found text ps (port_of r mark))) (natural_of (port_of r mark).worth) ≡ true
      go true e true g = rw (e, g) (offset_of_lem r.first offsets.0)
      go true e false g = rw (e, g) (offset_of_lem r.second (offsets.1 e))
      go false e c g = rw e (offset_of_lem r.first offsets.0)

  module _ (good : every (count_of ps) (parameter_good ps) ≡ true) (few : count_of ps ≤ 16) (fits : 15 * n + 16 ≤ length s.registers) where
    word : (p k : ℕ) → p < 2 → k < 6 → get_or table (register_part n p + k) 0 ≡ get_or (register_entry text ps r) (3 + 6 * p + k) 0
    word p k l m =
        let e : register_part n p + k ≡ 15 * n + 1 + (3 + 6 * p + k) = omega arith in
        ap (λ (i : ℕ). get_or table i 0) e
        ∙ appended-word 15 s.registers (register_entry text ps r) (omega (arith, R.entry-long text s r none)) (3 + 6 * p + k) (omega (arith, R.entry-long text s r none))

    pub entry-placed : (placed ps (register_part_in table (register_part n 0)) && placed ps (register_part_in table (register_part n 1))) ≡ true
    unfolding register_entry part_words
    entry-placed =
        let w0 : (k : ℕ) → k < 6 → get_or table (register_part n 0 + k) 0 ≡ get_or (register_entry text ps r) (3 + 6 * 0 + k) 0 = λ k. word 0 k (ltb-true 0 2 refl) in
        let w1 : (k : ℕ) → k < 6 → get_or table (register_part n 1 + k) 0 ≡ get_or (register_entry text ps r) (3 + 6 * 1 + k) 0 = λ k. word 1 k (ltb-true 1 2 refl) in
        let a = read-words (word_of r.place) (word_of r.length) r.width _ _ _ _ _ _ (has_part_lem r 2) (has_part_lem r 1) in
        let b = write-words (word_of r.place) (word_of r.length) r.width _ _ _ _ _ _ (has_part_lem r 2) (has_part_lem r 1) in
        let read = part_placed ps table (register_width table n) (register_part n 0) _ _ (has_part_lem r 2) good few (R.read-shape text s r none fits few).0 (w0 0 (ltb-true 0 6 refl) ∙ a.0)
        (λ e. (w0 1 (ltb-true 1 6 refl) ∙ (a.1 e).0, w0 2 (ltb-true 2 6 refl) ∙ (a.1 e).1)) (port-offset 1) in
        let write = part_placed ps table (register_width table n) (register_part n 1) _ _ (has_part_lem r 1) good few (R.write_shape text s r none fits few).0 (w1 0 (ltb-true 0 6 refl) ∙ b.0)
        (λ e. (w1 1 (ltb-true 1 6 refl) ∙ (b.1 e).0, w1 2 (ltb-true 2 6 refl) ∙ (b.1 e).1)) (port-offset 2) in
        rw (read, write)
