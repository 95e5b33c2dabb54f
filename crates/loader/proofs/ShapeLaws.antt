-- The entry of a variable has the shape that refusal 20 wants.
-- Assumes nothing.
use Prim.Native.Nat.{ℕ, zero, suc, ◌+◌, ◌-◌, ◌*◌, ◌≤◌, ◌<◌}
use native.Mathlib.Omega.{arith}
use mathlib.Core.Path.{◌≡◌, refl, sym, ap, ◌∙◌, subst}
use mathlib.Core.Bool.{Bool, true, false, ◌&&◌, ◌||◌, cond, false≢true, or-true}
use mathlib.Core.List.{List, ◌∷◌, ◌++◌}
use lib.Dec.{eqb, leb}
use lib.ListN.{length, get_or, replicate, length-append, get_or-replicate, get_or-append, get_or-eq_default}
use lib.Seq.{get_or-append-add}
use borrow.Author.Tests.{le-leb, leb-true, leb-false}
use Rattle.syntax.specs.declared.variable.Variable.{Variable}
use Rattle.tables.specs.Every.{zeros_front, zeros}
use Rattle.tables.specs.Words.{count_of, present, piece_count, piece_at, trigger_of, variable_at, variable_part}
use Rattle.tables.specs.Rules.{variable_part_shape, variable_shape}
use Rattle.tables.proofs.Laws.{every-same}
use Rattle.tables.proofs.ZeroLaws.{zeros-every, zeros-are}
use Rattle.tables.proofs.Growth.{Added}
use Rattle.rules.specs.Words.{word_of, written, appended}
use Rattle.rules.specs.Lists.{piece_words, pieces_on, pieces_of, part_words}
use Rattle.rules.specs.Variable.{flag_of, triggers, head_words, with_variable}
use Rattle.rules.proofs.AppendLaws.{length-appended, appended-word, appended-added}
use Rattle.rules.proofs.WordLaws.{word-itself, appended-three}
use Rattle.rules.proofs.WrittenLaws.{length-written, written-above}
use Rattle.logic.proofs.Tests.{and_same}

-- ---- the pieces of a list: 24 words, zero behind the last piece
module _ (text rs list : List ℕ) where
  pub pieces-length : (words : List ℕ) (n : ℕ) → length (pieces_on text rs list words n) ≡ length words
  unfolding pieces_on
  pieces-length words zero = refl
  pieces-length words (suc n) = length-written (pieces_on text rs list words n) (3 * n) (piece_words text rs list n) ∙ pieces-length words n

  pieces-above : (words : List ℕ) (n i : ℕ) → 3 * n ≤ i → get_or (pieces_on text rs list words n) i 0 ≡ get_or words i 0
  unfolding pieces_on piece_words
  pieces-above words zero i l = refl
  pieces-above words (suc n) i l =
      written-above (pieces_on text rs list words n) (3 * n) (piece_words text rs list n) i (omega arith) ∙ pieces-above words n i (omega arith)

  pub pieces-blank : (n i : ℕ) → 3 * n ≤ i → get_or (pieces_of text rs list n) i 0 ≡ 0
  pieces-blank n i l = pieces-above (replicate 24 0) n i l ∙ go (leb 24 i) refl
    where
      go : (b : Bool) → leb 24 i ≡ b → get_or {A = ℕ} (replicate 24 0) i 0 ≡ 0
      go true e = get_or-eq_default {A = ℕ} (replicate 24 0) 0 (leb-true 24 i e)
      go false e = get_or-replicate {A = ℕ} 24 i 0 0 (leb-false 24 i e)

-- ---- the words of a part, wherever they stand
zeros-shift : (s t : List ℕ) (f g n : ℕ) → ((k : ℕ) → k < n → get_or s (f + k) 0 ≡ get_or t (g + k) 0) → zeros s f n ≡ zeros t g n
zeros-shift s t f g n h =
    sym (zeros-every s f n) ∙ every-same n _ _ (λ k l. ap (λ (w : ℕ). eqb w 0) (h k l)) ∙ zeros-every t g n

module _ (t ws : List ℕ) (at : ℕ) (same : (k : ℕ) → k < 27 → get_or t (at + k) 0 ≡ get_or ws k 0) where
  first-same : get_or t at 0 ≡ get_or ws 0 0
  first-same = let e : at ≡ at + 0 = omega arith in ap (λ (i : ℕ). get_or t i 0) e ∙ same 0 (omega arith)

  pub shape-shift : variable_part_shape t at ≡ variable_part_shape ws 0
  unfolding variable_part_shape
  shape-shift =
      let m = piece_count ws 0 in
      let flag : Bool → Bool = λ z. leb 1 m && leb (trigger_of ws 0) 1 && z in
      rw (first-same, same 2 (omega arith), same 1 (omega arith), zeros-shift t ws at 0 27 (λ k l. let q : k ≡ 0 + k = omega arith in same k l ∙ ap (λ (i : ℕ). get_or ws i 0) q))
      (ap (λ (s : Bool). cond (present ws 0) s (zeros ws 0 27))
      (and_same (leb m 8) (λ few. ap flag (zeros-shift t ws (piece_at at m) (piece_at 0 m) (24 - 3 * m)
      (λ k l. let e = leb-true m 8 few in
      let q : at + 3 + 3 * m + k ≡ at + (0 + 3 + 3 * m + k) = omega arith in
      ap (λ (i : ℕ). get_or t i 0) q ∙ same (0 + 3 + 3 * m + k) (omega arith))))))

-- what is asked of a list: 24 words, zero behind its pieces, of which there are one to eight
pub record Listed (count : ℕ) (words : List ℕ) : Type 0 where
  pub some : 1 ≤ count
  pub few : count ≤ 8
  pub long : length words ≡ 24
  pub blank : (i : ℕ) → 3 * count ≤ i → get_or words i 0 ≡ 0

pub flag_small : (b : Bool) → leb (flag_of b) 1 ≡ true
unfolding flag_of
flag_small true = refl
flag_small false = refl

given-shape : (trigger count : ℕ) (words : List ℕ) → leb trigger 1 ≡ true → Listed count words → variable_part_shape (1 ∷ trigger ∷ word_of count ∷ words) 0 ≡ true
unfolding variable_part_shape
given-shape trigger count words t l =
    let z : zeros (1 ∷ trigger ∷ count ∷ words) (3 + 3 * count) (24 - 3 * count) ≡ true =
    zeros-are (1 ∷ trigger ∷ count ∷ words) (3 + 3 * count) (24 - 3 * count) (λ k h.
    let q : 3 + 3 * count + k ≡ suc (suc (suc (3 * count + k))) = omega arith in
    ap (λ (i : ℕ). get_or (1 ∷ trigger ∷ count ∷ words) i 0) q ∙ l.blank (3 * count + k) (omega arith)) in
    rw (word-itself count (omega (arith, l.few)), le-leb count 8 l.few, le-leb 1 count l.some, t) z

module _ (d : Variable) (first second : List ℕ) (trigger from : ℕ) (t : leb trigger 1 ≡ true) (f : Listed d.count first)
    (s : eqb from 2 ≡ true → Listed d.rest.count second) where
  pub part-shape : (variable_part_shape (part_words d first second trigger from) 0 ≡ true) × (length (part_words d first second trigger from) ≡ 27)
  unfolding part_words variable_part_shape zeros_front
  part-shape = go (eqb from 1) (eqb from 2) refl refl
    where
      go : (a b : Bool) → eqb from 1 ≡ a → eqb from 2 ≡ b
          → (variable_part_shape (part_words d first second trigger from) 0 ≡ true) × (length (part_words d first second trigger from) ≡ 27)
      go true b e g = (rw e (given-shape trigger d.count first t f), rw (e, f.long))
      go false true e g = (rw (e, g) (given-shape trigger d.rest.count second t (s g)), rw (e, g, (s g).long))
      go false false e g = (rw (e, g), rw (e, g))

-- a part that a list gives is there
pub part-there : (d : Variable) (first second : List ℕ) (trigger from : ℕ) → (eqb from 1 || eqb from 2) ≡ true → get_or (part_words d first second trigger from) 0 0 ≡ 1
unfolding part_words
part-there d first second trigger from h = go (eqb from 1) (eqb from 2) refl refl h
  where
    go : (a b : Bool) → eqb from 1 ≡ a → eqb from 2 ≡ b → (a || b) ≡ true → get_or (part_words d first second trigger from) 0 0 ≡ 1
    go true b e g h = rw e
    go false true e g h = rw (e, g)
    go false false e g h = absurd (false≢true h)

-- ---- the entry, written in one run
module _ (vs : List ℕ) (d : Variable) (first second : List ℕ) (read write : ℕ) where
  abbrev at : ℕ
  at = count_of vs

  abbrev reads : List ℕ
  reads = part_words d first second (triggers d.rest.behaviours d.rest.behaviours.read) read

  abbrev writes : List ℕ
  writes = part_words d first second (triggers d.rest.behaviours d.rest.behaviours.write) write

  abbrev words : List ℕ
  words = head_words d ++ reads ++ writes

  abbrev entered : List ℕ
  entered = with_variable vs d first second read write

  module _ (r : length reads ≡ 27) (w : length writes ≡ 27) where
    front_long : length (head_words d ++ reads) ≡ 32
    unfolding head_words
    front_long = omega (arith, r)

    words_long : length words ≡ 59
    words_long = length-append (head_words d ++ reads) writes ∙ omega (arith, front_long, w)

    is-appended : entered ≡ appended 59 vs words
    unfolding with_variable head_words
    is-appended =
        let headed = written vs (variable_at at) (head_words d) in
        let half = written headed (variable_part at 0) reads in
        let p : variable_part at 0 ≡ 59 * at + 1 + 5 = omega arith in
        let q : variable_part at 1 ≡ 59 * at + 1 + 32 = omega arith in
        appended-three 59 vs (head_words d) reads writes refl (sym front_long) refl refl (ap (λ (n : ℕ). written headed n reads) p)
        (ap (λ (n : ℕ). written half n writes) q) refl

    pub entry_length : length entered ≡ length vs
    entry_length = ap length is-appended ∙ length-appended 59 vs words

    pub entry-added : 0 < length vs → at < 4294967295 → Added 59 vs entered
    entry-added l h = subst (Added 59 vs) (sym is-appended) (appended-added 59 vs words l h (omega (arith, words_long)))

    module _ (fits : variable_at at + 59 ≤ length vs) where
      pub entry-word : (k : ℕ) → k < 59 → get_or entered (variable_at at + k) 0 ≡ get_or words k 0
      entry-word k l =
          ap (λ (t : List ℕ). get_or t (variable_at at + k) 0) is-appended ∙ appended-word 59 vs words (omega (arith, words_long)) k (omega (arith, words_long))

      front-word : (k : ℕ) → k < 32 → get_or entered (variable_at at + k) 0 ≡ get_or (head_words d ++ reads) k 0
      front-word k l = entry-word k (omega arith) ∙ get_or-append (head_words d ++ reads) writes 0 k (omega (arith, front_long))

      head_word : (k : ℕ) → k < 5 → get_or entered (variable_at at + k) 0 ≡ get_or (head_words d) k 0
      unfolding head_words
      head_word k l = front-word k (omega arith) ∙ get_or-append (head_words d) reads 0 k l

      read_word : (k : ℕ) → k < 27 → get_or entered (variable_part at 0 + k) 0 ≡ get_or reads k 0
      unfolding head_words
      read_word k l =
          let e : variable_part at 0 + k ≡ variable_at at + suc (suc (suc (suc (suc k)))) = omega arith in
          ap (λ (i : ℕ). get_or entered i 0) e ∙ front-word (suc (suc (suc (suc (suc k))))) (omega arith)

      write_word : (k : ℕ) → k < 27 → get_or entered (variable_part at 1 + k) 0 ≡ get_or writes k 0
      write_word k l =
          let e : variable_part at 1 + k ≡ variable_at at + (length (head_words d ++ reads) + k) = omega (arith, front_long) in
          ap (λ (i : ℕ). get_or entered i 0) e ∙ entry-word (length (head_words d ++ reads) + k) (omega (arith, front_long)) ∙ get_or-append-add (head_words d ++ reads) writes k 0

      either-there : (eqb read 1 || eqb read 2 || (eqb write 1 || eqb write 2)) ≡ true → (present entered (variable_part at 0) || present entered (variable_part at 1)) ≡ true
      either-there h = go (eqb read 1 || eqb read 2) refl h
        where
          go : (b : Bool) → (eqb read 1 || eqb read 2) ≡ b → (b || (eqb write 1 || eqb write 2)) ≡ true
              → (present entered (variable_part at 0) || present entered (variable_part at 1)) ≡ true
          go true e h = rw (first-same entered reads (variable_part at 0) read_word, part-there d first second _ read e)
          go false e h = rw (first-same entered writes (variable_part at 1) write_word, part-there d first second _ write h) (or-true (present entered (variable_part at 0)))

      -- the shape of the whole entry
      pub entry-shape : leb d.kind 2 ≡ true → variable_part_shape reads 0 ≡ true → variable_part_shape writes 0 ≡ true
          → (eqb read 1 || eqb read 2 || (eqb write 1 || eqb write 2)) ≡ true → variable_shape entered at ≡ true
      unfolding variable_shape head_words
      entry-shape k p q e =
          rw (
            head_word 2 (omega arith),
            head_word 4 (omega arith),
            k,
            flag_small (leb 1 d.rest.behaviours.volatile),
            shape-shift entered reads (variable_part at 0) read_word,
            p,
            shape-shift entered writes (variable_part at 1) write_word,
            q,
            either-there e,
          )
