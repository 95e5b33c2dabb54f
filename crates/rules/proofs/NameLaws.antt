-- Turns of the loops that compare names and search for one.
use Prim.Native.Nat.{ℕ, ◌+◌, ◌-◌, ◌*◌, ◌/◌, ◌≤◌, ◌<◌, min}
use native.Mathlib.Omega.{arith}
use native.Mathlib.Nat.{min-eq_left, min-eq_right, min-le_left, le_of_lt}
use mathlib.Core.Path.{◌≡◌, refl, sym, ap, ◌∙◌}
use mathlib.Core.Bool.{Bool, true, false, ◌&&◌}
use mathlib.Core.List.{List, [], ◌∷◌}
use lib.Dec.{eqb, ltb, leb}
use lib.ListN.{length, get_or, take, drop, length-drop, drop_of_length-le}
use lib.Seq.{take_all, take-length, drop-length, get_or-drop, get_or-take}
use borrow.Author.Tests.{eq-eqb, ne_eqb, eqb-true, eqb-false, leb-true, leb-false, ltb-true}
use Rattle.std.specs.List.{starts_with}
use Rattle.token.specs.Bytes.{begins}
use Rattle.tables.specs.Every.{first_of, Word}
use Rattle.tables.specs.Tables.{count_of}
use Rattle.rules.specs.Names.{stands_at, is_named, held_of, Held, found_below, found_in, index_of}
use Rattle.logic.proofs.Tests.{and_left, and_right}
use Rattle.token.proofs.Lexemes.{begins-take}

-- std's test of how a text begins
pub begins-is : (name text : List ℕ) → starts_with eqb text name ≡ begins name text
unfolding begins
begins-is [] text = refl
begins-is (a ∷ name) [] = refl
begins-is (a ∷ name) (x ∷ text) = rw (swapped a x, begins-is name text)
  where
    swapped : (a x : ℕ) → eqb a x ≡ eqb x a
    swapped a x = go (eqb x a) refl
      where
        go : (b : Bool) → eqb x a ≡ b → eqb a x ≡ b
        go true e = eq-eqb a x (sym (eqb-true x a e))
        go false e = ne_eqb a x (λ q. eqb-false x a e (sym q))

-- what does not change past the length of a list, at a number held to that length
held-inside : (f : ℕ → List ℕ) (n most : ℕ) → (most ≤ n → f most ≡ f n) → f (min n most) ≡ f n
held-inside f n most past = go (leb n most) refl
  where
    go : (b : Bool) → leb n most ≡ b → f (min n most) ≡ f n
    go true h = ap f (min-eq_left (leb-true n most h))
    go false h = let l = le_of_lt (leb-false n most h) in ap f (min-eq_right l) ∙ past l

-- a part of a text whose ends are held inside it
pub part_of : (text : List ℕ) (place extent : ℕ) {start more : ℕ} → start ≡ min place (length text)
    → more ≡ min extent (length (take (length text - start) (drop start text)))
    → take more (take (length text - start) (drop start text)) ≡ take extent (drop place text)
part_of text place extent {start} {more} s m =
    let rest = drop start text in
    let whole : take (length text - start) rest ≡ rest = take_all (length text - start) rest (omega (arith, length-drop start text)) in
    ap (take more) whole
    ∙ ap (λ (n : ℕ). take n rest) (m ∙ ap (λ (l : List ℕ). min extent (length l)) whole)
    ∙ held-inside (λ n. take n rest) extent (length rest) (λ l. take-length rest ∙ sym (take_all extent rest l))
    ∙ ap (λ (n : ℕ). take extent (drop n text)) s
    ∙ ap (take extent) (held-inside (λ n. drop n text) place (length text) (λ l. drop-length text ∙ sym (drop_of_length-le text l)))

begins-part : (name s : List ℕ) → begins name (take (length name) s) ≡ begins name s
unfolding begins
begins-part [] s = refl
begins-part (a ∷ name) [] = refl
begins-part (a ∷ name) (x ∷ s) = ap (λ (b : Bool). eqb x a && b) (begins-part name s)

module _ (text : List ℕ) (place extent : ℕ) (name : List ℕ) where
  pub stands-taken : {b : Bool} {part : List ℕ} → (ltb 0 (length name) && eqb extent (length name)) ≡ true → b ≡ begins name part
      → part ≡ take extent (drop place text) → b ≡ stands_at text place extent name
  unfolding stands_at
  stands-taken {b} {part} t e q =
      let f : extent ≡ length name = eqb-true _ _ (and_right (ltb 0 (length name)) (eqb extent (length name)) t) in
      rw (t, e, q, f) (begins-part name (drop place text))

  pub stands-left : (ltb 0 (length name) && eqb extent (length name)) ≡ false → false ≡ stands_at text place extent name
  unfolding stands_at
  stands-left t = rw t

-- how many entries a table holds whole: what the count allows
pub held-some : (stride : ℕ) (table : List ℕ) {n r : ℕ} → Word table 0 n → r ≡ min n ((length table - 1) / stride) → Held stride table r
unfolding held_of
held-some stride table {n} {r} w e =
    let l : min n ((length table - 1) / stride) ≤ n = min-le_left n ((length table - 1) / stride) in
    record { is = e ∙ ap (λ (m : ℕ). min m ((length table - 1) / stride)) w.is; small = omega (arith, w.small) }

-- the index of what is found is small
pub index-small : (text table : List ℕ) (stride : ℕ) (name : List ℕ) → count_of table < 4294967296 → index_of (found_in text table stride name) < 4294967296
unfolding found_in found_below held_of
index-small text table stride name h =
    go (ltb (first_of (held_of stride table) (λ i. is_named text table (stride * i + 1) name)) (held_of stride table)) refl
  where
    go : (b : Bool) → ltb (first_of (held_of stride table) (λ i. is_named text table (stride * i + 1) name)) (held_of stride table) ≡ b
        → index_of (found_in text table stride name) < 4294967296
    go true e =
        let l : first_of (held_of stride table) (λ i. is_named text table (stride * i + 1) name) < held_of stride table = ltb-true _ _ e in
        let m : held_of stride table ≤ count_of table = min-le_left (count_of table) ((length table - 1) / stride) in
        rw e (omega arith)
    go false e = rw e (omega arith)

-- what a name that an entry records agrees in: its length, that it is not empty, and its last byte
pub record EndsAlike (text table : List ℕ) (at : ℕ) (name : List ℕ) : Type 0 where
  pub long : get_or table (at + 1) 0 ≡ length name
  pub some : 0 < length name
  pub inside : get_or table at 0 + (length name - 1) < length text
  pub last : get_or text (get_or table at 0 + (length name - 1)) 0 ≡ get_or name (length name - 1) 0

named-ends : (text table : List ℕ) (at : ℕ) (name : List ℕ) → is_named text table at name ≡ true → EndsAlike text table at name
unfolding is_named stands_at
named-ends text table at name e =
    let place = get_or table at 0 in
    let n = length name in
    let front = and_left (ltb 0 n && eqb (get_or table (at + 1) 0) n) (begins name (drop place text)) e in
    let some : 0 < n = ltb-true 0 n (and_left (ltb 0 n) (eqb (get_or table (at + 1) 0) n) front) in
    let taken = begins-take name (drop place text) (and_right (ltb 0 n && eqb (get_or table (at + 1) 0) n) (begins name (drop place text)) e) in
    let rest = length-drop place text in
    record {
      long = eqb-true (get_or table (at + 1) 0) n (and_right (ltb 0 n) (eqb (get_or table (at + 1) 0) n) front);
      some = some;
      inside = omega (arith, some, taken.1, rest);
      last =
          sym (get_or-drop place text (n - 1) 0)
          ∙ sym (get_or-take n (drop place text) (n - 1) 0 (omega (arith, some)))
          ∙ ap (λ (l : List ℕ). get_or l (n - 1) 0) taken.0;
    }

pub unnamed : (text table : List ℕ) (at : ℕ) (name : List ℕ) → (EndsAlike text table at name → ⊥) → is_named text table at name ≡ false
unnamed text table at name unlike = go (is_named text table at name) refl
  where
    go : (b : Bool) → is_named text table at name ≡ b → is_named text table at name ≡ false
    go true e = absurd (unlike (named-ends text table at name e))
    go false e = e
