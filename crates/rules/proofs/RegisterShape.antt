-- The entry of a register has the shape that refusal 20 wants: each part absent and zero, or with a parameter that is
-- there and masks that fit. Assumes nothing.
use Prim.Native.Nat.{ℕ, zero, suc, ◌+◌, ◌-◌, ◌*◌, ◌/◌, ◌≤◌, ◌<◌, ◌^◌}
use native.Mathlib.Omega.{arith}
use native.Mathlib.Nat.{min-le_left}
use mathlib.Core.Path.{◌≡◌, refl, sym, ap, ap₂, ◌∙◌}
use mathlib.Core.Bool.{Bool, true, false, ◌||◌, cond, false≢true}
use mathlib.Core.List.{List, [], ◌∷◌}
use lib.Dec.{eqb, leb, ltb}
use lib.ListN.{length, get_or, length-append, get_or-append}
use lib.Seq.{get_or-append-add}
use borrow.Author.Tests.{eq-eqb, eqb-true, lt-ltb, ltb-true}
use Rattle.syntax.specs.declared.register.Register.{Register}
use Rattle.tables.specs.Every.{first_of}
use Rattle.tables.specs.Words.{count_of, present, register_at, register_part, register_width}
use Rattle.bits.specs.Widths.{is_width}
use Rattle.tables.specs.Rules.{register_part_shape, register_shape}
use Rattle.tables.proofs.ZeroLaws.{zeros-are}
use Rattle.rules.specs.declared.mask.Mask.{Mask}
use Rattle.std.specs.Prelude.{None}
use Rattle.std.specs.Bool.{then_some}
use Rattle.rules.specs.State.{State}
use Rattle.rules.specs.Words.{word_of, appended}
use Rattle.rules.specs.Names.{is_named, held_of, found_below, found_in, is_nothing, index_of}
use Rattle.rules.specs.Register.{has_part_lem, port_of, part_mask, part_entry, port_found, part_words, register_entry, unknown_port, register_written}
use Rattle.rules.proofs.FaultLaws.{or-none, if_none, only_none}
use Rattle.rules.proofs.MaskLaws.{Fitting, at-fitting}
use Rattle.rules.proofs.WordLaws.{word-itself}
use Rattle.rules.proofs.AppendLaws.{appended-word}
use Rattle.rules.proofs.OffsetLaws.{part_length}

-- ---- the words of a part, wherever they stand
module _ (ps t : List ℕ) (w at index offset : ℕ) (mask : Mask) (fitting : Fitting w mask) where
  abbrev given : List ℕ
  given = 1 ∷ word_of index ∷ word_of offset ∷ mask.dots ∷ mask.fixed ∷ mask.ones ∷ []

  there : ((k : ℕ) → k < 6 → get_or t (at + k) 0 ≡ get_or given k 0) → index < count_of ps → count_of ps ≤ 16 → register_part_shape ps t w at ≡ true
  unfolding register_part_shape
  there same l few =
      let first : get_or t at 0 ≡ 1 = (let e : at ≡ at + 0 = omega arith in ap (λ (i : ℕ). get_or t i 0) e) ∙ same 0 (omega arith) in
      let port : get_or t (at + 1) 0 ≡ index = same 1 (omega arith) ∙ word-itself index (omega arith) in
      let dots : get_or t (at + 3) 0 ≡ mask.dots = same 3 (omega arith) in
      let fixed : get_or t (at + 4) 0 ≡ mask.fixed = same 4 (omega arith) in
      let ones : get_or t (at + 5) 0 ≡ mask.ones = same 5 (omega arith) in
      rw (
        first,
        port,
        dots,
        fixed,
        ones,
        lt-ltb index (count_of ps) l,
        lt-ltb mask.dots (2 ^ w) fitting.dots-small,
        lt-ltb mask.fixed (2 ^ w) fitting.fixed-small,
        fitting.dots-apart,
        fitting.ones-inside,
        eq-eqb mask.ones mask.ones refl,
      )

  absent : ((k : ℕ) → k < 6 → get_or t (at + k) 0 ≡ 0) → register_part_shape ps t w at ≡ true
  unfolding register_part_shape
  absent same =
      let first : get_or t at 0 ≡ 0 = (let e : at ≡ at + 0 = omega arith in ap (λ (i : ℕ). get_or t i 0) e) ∙ same 0 (omega arith) in
      rw (first) (zeros-are t at 6 same)

-- six zeros
zero_word : (k : ℕ) → ◌≡◌ {A = ℕ} (get_or (0 ∷ 0 ∷ 0 ∷ 0 ∷ 0 ∷ 0 ∷ []) k 0) 0
zero_word zero = refl
zero_word (suc zero) = refl
zero_word (suc (suc zero)) = refl
zero_word (suc (suc (suc zero))) = refl
zero_word (suc (suc (suc (suc zero)))) = refl
zero_word (suc (suc (suc (suc (suc zero))))) = refl
zero_word (suc (suc (suc (suc (suc (suc k)))))) = refl

-- a name that is found is found below the count
below : (n i : ℕ) → is_nothing (found_below n i) ≡ false → index_of (found_below n i) < n
unfolding found_below
below n i h = go (ltb i n) refl
  where
    go : (b : Bool) → ltb i n ≡ b → index_of (found_below n i) < n
    go true e = rw e (ltb-true i n e)
    go false e = absurd (false≢true (sym h ∙ rw e))

pub found_below_lem : (text table : List ℕ) (stride : ℕ) (name : List ℕ) → is_nothing (found_in text table stride name) ≡ false
    → index_of (found_in text table stride name) < count_of table
unfolding found_in held_of
found_below_lem text table stride name h =
    let n = held_of stride table in
    let b = below n (first_of n (λ i. is_named text table (stride * i + 1) name)) h in
    omega (arith, min-le_left (count_of table) ((length table - 1) / stride))

-- a part, by whether the register has it
part-judged : (ps t : List ℕ) (w at index offset : ℕ) (mask : Mask) → Fitting w mask → (b : Bool)
    → ((k : ℕ) → k < 6 → get_or t (at + k) 0 ≡ get_or (part_entry b index offset mask) k 0) → index < count_of ps → count_of ps ≤ 16
    → (register_part_shape ps t w at ≡ true) × (present t at ≡ b)
unfolding part_entry
part-judged ps t w at index offset mask fitting true same l few =
    let e : at ≡ at + 0 = omega arith in
    (there ps t w at index offset mask fitting same l few, ap (λ (i : ℕ). present t i) e ∙ ap (λ (x : ℕ). eqb x 1) (same 0 (omega arith)))
part-judged ps t w at index offset mask fitting false same l few =
    let e : at ≡ at + 0 = omega arith in
    (absent ps t w at index offset mask fitting (λ k m. same k m ∙ zero_word k), ap (λ (i : ℕ). present t i) e ∙ ap (λ (x : ℕ). eqb x 1) (same 0 (omega arith)))

-- a register has a part
some-part : (r : Register) → (has_part_lem r 2 || has_part_lem r 1) ≡ true
unfolding has_part_lem
some-part r = go r.two refl (eqb r.first.mark 2) refl
  where
    go : (b : Bool) → r.two ≡ b → (c : Bool) → eqb r.first.mark 2 ≡ c → (has_part_lem r 2 || has_part_lem r 1) ≡ true
    go true e c g = rw e
    go false e true g = rw (e, eqb-true r.first.mark 2 g)
    go false e false g = rw (e, g)

module _ (text : List ℕ) (s : State) (r : Register) (none : register_written text s r ≡ None) where
  abbrev ps : List ℕ
  ps = s.parameters

  abbrev rs : List ℕ
  rs = s.registers

  abbrev n : ℕ
  n = count_of rs

  abbrev with-entry : List ℕ
  with-entry = appended 15 rs (register_entry text ps r)

  -- 7 is not broken: the ports' names are found
  ports_known : (is_nothing (port_found text ps r.first) ≡ false) × (r.two ≡ true → is_nothing (port_found text ps r.second) ≡ false)
  unfolding register_written unknown_port
  ports_known =
      let a = (or-none _ _ none).1 in
      let b = or-none _ _ a in
      let c = (or-none _ _ b.1).0 in
      (if_none _ 7 r.first.place b.0, λ e. if_none _ 7 r.second.place (only_none r.two _ c e))

  port-known : (mark : ℕ) → is_nothing (port_found text ps (port_of r mark)) ≡ false
  unfolding port_of
  port-known mark = go r.two refl (eqb r.first.mark mark) refl
    where
      go : (b : Bool) → r.two ≡ b → (c : Bool) → eqb r.first.mark mark ≡ c → is_nothing (port_found text ps (port_of r mark)) ≡ false
      go true e true g = rw (e, g) ports_known.0
      go true e false g = rw (e, g) (ports_known.1 e)
      go false e c g = rw e ports_known.0

  port-below : (mark : ℕ) → index_of (port_found text ps (port_of r mark)) < count_of ps
  unfolding port_found
  port-below mark = found_below_lem text ps 36 _ (port-known mark)

  abbrev reads : List ℕ
  reads = part_words text ps r 1 2 r.masks.read r.masks.reading

  abbrev writes : List ℕ
  writes = part_words text ps r 2 1 r.masks.write r.masks.writing

  words_long : (mark other own quote : ℕ) → length (part_words text ps r mark other own quote) ≡ 6
  unfolding part_words
  words_long mark other own quote = part_length (has_part_lem r other) _ _ _

  reads-long : length reads ≡ 6
  reads-long = words_long 1 2 r.masks.read r.masks.reading

  pub entry-long : length (register_entry text ps r) ≡ 15
  unfolding register_entry
  entry-long = ap (λ (k : ℕ). suc (suc (suc k))) (length-append reads writes ∙ ap₂ ◌+◌ reads-long (words_long 2 1 r.masks.write r.masks.writing))

  module _ (fits : 15 * n + 16 ≤ length rs) (few : count_of ps ≤ 16) where
    word : (k : ℕ) → k < 15 → get_or with-entry (register_at n + k) 0 ≡ get_or (register_entry text ps r) k 0
    word k l = appended-word 15 rs (register_entry text ps r) (omega (arith, entry-long)) k (omega (arith, entry-long))

    read_word : (k : ℕ) → k < 6 → get_or with-entry (register_part n 0 + k) 0 ≡ get_or reads k 0
    unfolding register_entry
    read_word k l =
        let e : register_part n 0 + k ≡ register_at n + suc (suc (suc k)) = omega arith in
        ap (λ (i : ℕ). get_or with-entry i 0) e ∙ word (suc (suc (suc k))) (omega arith) ∙ get_or-append reads writes 0 k (omega (arith, reads-long))

    write_word : (k : ℕ) → k < 6 → get_or with-entry (register_part n 1 + k) 0 ≡ get_or writes k 0
    unfolding register_entry
    write_word k l =
        let e : register_part n 1 + k ≡ register_at n + suc (suc (suc (length reads + k))) = omega (arith, reads-long) in
        ap (λ (i : ℕ). get_or with-entry i 0) e ∙ word (suc (suc (suc (length reads + k)))) (omega (arith, reads-long)) ∙ get_or-append-add reads writes k 0

    -- its width is the third word
    pub width_is : register_width with-entry n ≡ r.width
    unfolding register_entry
    width_is = word 2 (omega arith)

    -- each part has its shape, whatever the width
    parts : (p other mark own quote : ℕ) → ((k : ℕ) → k < 6 → get_or with-entry (register_part n p + k) 0 ≡ get_or (part_words text ps r mark other own quote) k 0)
        → (register_part_shape ps with-entry r.width (register_part n p) ≡ true) × (present with-entry (register_part n p) ≡ has_part_lem r other)
    unfolding part_words part_mask
    parts p other mark own quote words =
        part-judged ps with-entry r.width (register_part n p) _ _ _ (at-fitting text r.width (then_some (leb 1 (r.masks.bare + own)) (cond (eqb own 0) r.masks.whole quote)))
        (has_part_lem r other) words (port-below mark) few

    pub read-shape : (register_part_shape ps with-entry (register_width with-entry n) (register_part n 0) ≡ true) × (present with-entry (register_part n 0) ≡ has_part_lem r 2)
    read-shape = rw width_is (parts 0 2 1 r.masks.read r.masks.reading read_word)

    pub write_shape : (register_part_shape ps with-entry (register_width with-entry n) (register_part n 1) ≡ true) × (present with-entry (register_part n 1) ≡ has_part_lem r 1)
    write_shape = rw width_is (parts 1 1 2 r.masks.write r.masks.writing write_word)

    pub register_shape_lem : is_width (register_width with-entry n) ≡ true → register_shape ps with-entry n ≡ true
    unfolding register_shape
    register_shape_lem wide = rw (wide, read-shape.0, write_shape.0, read-shape.1, write_shape.1) (some-part r)
