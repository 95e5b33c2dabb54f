-- What the pieces of a part hold, one after the other.
-- Assumes nothing.
use Prim.Native.Nat.{ℕ, zero, suc, ◌+◌, ◌-◌, ◌*◌, ◌<◌, ◌≤◌, ◌^◌}
use native.Mathlib.Omega.{arith}
use mathlib.Core.Path.{◌≡◌, refl, sym, ap, ap₂, ◌∙◌}
use mathlib.Core.Bool.{Bool, true, false, cond, ◌&&◌, ◌||◌, or-false}
use mathlib.Core.List.{List, [], ◌∷◌, ◌++◌}
use lib.Dec.{eqb, leb, ltb}
use lib.ListN.{get_or, length, length-append}
use borrow.Author.Tests.{eqb-true, eqb-false, leb-true, ltb-true, ltb-false, le-leb, le-ltb, lt-ltb}
use Rattle.std.specs.Prelude.{Option, Some, None, IfSome}
use Rattle.std.specs.Bool.{then_some}
use Rattle.tables.specs.Every.{some}
use Rattle.tables.specs.Marks.{down_from, has, joined}
use Rattle.tables.specs.declared.Piece.{Piece}
use Rattle.tables.specs.Tables.{piece_in, piece_bits}
use Rattle.tables.proofs.DistinctLaws.{has-append}
use Rattle.tables.proofs.MarkLaws.{joined-more, piece_run, length-down}
use Rattle.details.specs.Holders.{behind, Few}

-- a run of numbers has those between its ends
run_none : (x from : ℕ) → false ≡ (leb from x && ltb x (from + 0))
run_none x from = go (leb from x) refl
  where
    go : (b : Bool) → leb from x ≡ b → false ≡ (b && ltb x (from + 0))
    go true e = sym (le-ltb x (from + 0) (omega (arith, leb-true from x e)))
    go false e = refl

run_more : (x from n : ℕ) (b : Bool) → eqb x (from + n) ≡ b → (b || (leb from x && ltb x (from + n))) ≡ (leb from x && ltb x (from + suc n))
run_more x from n true e =
    let is = eqb-true x (from + n) e in
    sym (ap₂ ◌&&◌ (le-leb from x (omega arith)) (lt-ltb x (from + suc n) (omega arith)))
run_more x from n false e = ap (λ (b : Bool). leb from x && b) (go (ltb x (from + n)) refl)
  where
    go : (b : Bool) → ltb x (from + n) ≡ b → b ≡ ltb x (from + suc n)
    go true l = sym (lt-ltb x (from + suc n) (omega (arith, ltb-true x (from + n) l)))
    go false l =
        let other = eqb-false x (from + n) e in
        let past = ltb-false x (from + n) l in
        sym (le-ltb x (from + suc n) (omega arith))

has-down : (x from n : ℕ) → has x (down_from from n) ≡ (leb from x && ltb x (from + n))
unfolding has down_from
has-down x from zero = run_none x from
has-down x from (suc n) = ap (λ (b : Bool). eqb x (from + n) || b) (has-down x from n) ∙ run_more x from n (eqb x (from + n)) refl

-- a piece, by the words that say where it is: it has the numbers from its low bit to its high one, and none where it
-- rises
piece-ends : (x from r h l : ℕ) → from ≡ 64 * r + l → (leb from x && ltb x (64 * r + h + 1)) ≡ (leb from x && ltb x (from + (h + 1 - l)))
piece-ends x from r h l f = go (leb from x) refl
  where
    here : from ≤ x → (b : Bool) → ltb x (64 * r + h + 1) ≡ b → b ≡ ltb x (from + (h + 1 - l))
    here le true e =
        let lt = ltb-true x (64 * r + h + 1) e in
        sym (lt-ltb x (from + (h + 1 - l)) (omega arith))
    here le false e =
        let past = ltb-false x (64 * r + h + 1) e in
        sym (le-ltb x (from + (h + 1 - l)) (omega arith))

    go : (b : Bool) → leb from x ≡ b → (b && ltb x (64 * r + h + 1)) ≡ (b && ltb x (from + (h + 1 - l)))
    go true e = here (leb-true from x e) (ltb x (64 * r + h + 1)) refl
    go false e = refl

pub piece-has : (vs : List ℕ) (piece x : ℕ) {r h l : ℕ} → r ≡ get_or vs piece 0 → h ≡ get_or vs (piece + 1) 0 → l ≡ get_or vs (piece + 2) 0
    → (leb (64 * r + l) x && ltb x (64 * r + h + 1)) ≡ has x (piece_bits (piece_in vs piece))
piece-has vs piece x {r} {h} {l} er eh el =
    piece-ends x (64 * r + l) r h l refl ∙ sym (has-down x (64 * r + l) (h + 1 - l)) ∙ ap (has x) (piece_run vs piece er eh el)

-- how many bits a piece has, and how many of them stand behind one: as many as lie below it
behind-down : (x from n : ℕ) → behind x (down_from from n) ≡ cond (leb from x && ltb x (from + n)) (Some (x - from)) None
unfolding behind down_from
behind-down x from zero = ap (λ (b : Bool). cond b (Some (x - from)) None) (run_none x from)
behind-down x from (suc n) = go (behind-down x from n) (eqb x (from + n)) refl
  where
    go :
        behind x (down_from from n) ≡ cond (leb from x && ltb x (from + n)) (Some (x - from)) None
        → (b : Bool) → eqb x (from + n) ≡ b
        → cond b (Some (length (down_from from n))) (behind x (down_from from n)) ≡ cond (leb from x && ltb x (from + suc n)) (Some (x - from)) None
    go h true e =
        let is = eqb-true x (from + n) e in
        let low : n ≡ x - from = omega arith in
        ap Some (length-down from n ∙ low) ∙ ap (λ (b : Bool). cond b (Some (x - from)) None) (run_more x from n true e)
    go h false e = h ∙ ap (λ (b : Bool). cond b (Some (x - from)) None) (run_more x from n false e)

behind-few : (x : ℕ) (xs : List ℕ) → IfSome (behind x xs) (λ w. w ≤ length xs)
unfolding behind
behind-few x [] = tt
behind-few x (y ∷ ys) = go (behind x ys) (behind-few x ys) (eqb x y)
  where
    go : (o : Option ℕ) → IfSome o (λ w. w ≤ length ys) → (b : Bool) → IfSome (cond b (Some (length ys)) o) (λ w. w ≤ suc (length ys))
    go o h true = omega arith
    go None h false = tt
    go (Some w) h false = omega arith

pub piece_size : (vs : List ℕ) (piece : ℕ) {h l n : ℕ} → h ≡ get_or vs (piece + 1) 0 → l ≡ get_or vs (piece + 2) 0 → h < 2 ^ 32 → n ≡ h + 1 - l
    → Few (length (piece_bits (piece_in vs piece))) n
piece_size vs piece {h} {l} eh el lt e =
    record {
      is = e ∙ sym (length-down (64 * get_or vs piece 0 + l) (h + 1 - l)) ∙ ap length (piece_run vs piece refl eh el);
      small = omega arith;
    }

tried-cond : (b : Bool) (w : ℕ) → then_some b w ≡ cond b (Some w) None
tried-cond true w = refl
tried-cond false w = refl

pub piece_weight :
    (vs : List ℕ) (piece x : ℕ) {r l : ℕ} {b : Bool} → r ≡ get_or vs piece 0 → l ≡ get_or vs (piece + 2) 0
    → b ≡ has x (piece_bits (piece_in vs piece))
    → then_some b (x - (64 * r + l)) ≡ behind x (piece_bits (piece_in vs piece))
piece_weight vs piece x {r} {l} {b} er el eb =
    let n : ℕ = get_or vs (piece + 1) 0 + 1 - l in
    let run : down_from (64 * r + l) n ≡ piece_bits (piece_in vs piece) = piece_run vs piece er refl el in
    let test : b ≡ (leb (64 * r + l) x && ltb x (64 * r + l + n)) = eb ∙ ap (has x) (sym run) ∙ has-down x (64 * r + l) n in
    tried-cond b (x - (64 * r + l)) ∙ ap (λ (t : Bool). cond t (Some (x - (64 * r + l))) None) test ∙ sym (behind-down x (64 * r + l) n) ∙ ap (behind x) run

-- a piece, made of its words
pub piece-made : (vs : List ℕ) (at : ℕ) {r h l : ℕ} → r ≡ get_or vs at 0 → h ≡ get_or vs (at + 1) 0 → l ≡ get_or vs (at + 2) 0
    → ◌≡◌ {A = Piece} (record { register = r; high = h; low = l }) (piece_in vs at)
piece-made vs at er eh el = rw (er, eh, el)

-- lists that are joined have what some of them has
pub has-joined : (x : ℕ) (f : ℕ → List ℕ) (n : ℕ) → some n (λ k. has x (f k)) ≡ has x (joined f n)
unfolding some joined has
has-joined x f zero = refl
has-joined x f (suc n) = ap (λ (b : Bool). b || has x (f n)) (has-joined x f n) ∙ sym (has-append x (joined f n) (f n))

pub has-mentions : (x : ℕ) (f : ℕ → ℕ) (n : ℕ) → some n (λ k. eqb x (f k)) ≡ has x (joined (λ k. f k ∷ []) n)
unfolding some joined has
has-mentions x f zero = refl
has-mentions x f (suc n) =
    ap₂ ◌||◌ (has-mentions x f n) (sym (or-false (eqb x (f n))))
    ∙ sym (has-append x (joined (λ k. f k ∷ []) n) (f n ∷ []))

-- the same for what stands behind a number
behind-append : (x : ℕ) (xs ys : List ℕ) → behind x (xs ++ ys) ≡ elim (behind x xs) [ Some w ↦ Some (w + length ys) | None ↦ behind x ys ]
unfolding behind
behind-append x [] ys = refl
behind-append x (y ∷ xs) ys = go (behind-append x xs ys) (eqb x y)
  where
    go :
        behind x (xs ++ ys) ≡ elim (behind x xs) [ Some w ↦ Some (w + length ys) | None ↦ behind x ys ]
        → (b : Bool)
        → cond b (Some (length (xs ++ ys))) (behind x (xs ++ ys)) ≡ elim (cond b (Some (length xs)) (behind x xs)) [ Some w ↦ Some (w + length ys) | None ↦ behind x ys ]
    go h true = ap Some (length-append xs ys)
    go h false = h

behind_more : (x : ℕ) (f : ℕ → List ℕ) (n : ℕ) → behind x (joined f (n + 1)) ≡ elim (behind x (joined f n)) [ Some w ↦ Some (w + length (f n)) | None ↦ behind x (f n) ]
behind_more x f n = ap (behind x) (joined-more f n) ∙ behind-append x (joined f n) (f n)

-- a turn of the loop that weighs a bit: behind the piece that has it stand all bits of the pieces that follow
module _ (x : ℕ) (f : ℕ → List ℕ) (n : ℕ) {weight : Option ℕ} (is : weight ≡ behind x (joined f n)) where
  pub weigh_on : {above size : ℕ} → weight ≡ Some above → size ≡ length (f n) → Some (above + size) ≡ behind x (joined f (n + 1))
  weigh_on {above} {size} e es = sym (behind_more x f n ∙ rw (sym is ∙ e, es))

  pub weigh-first : weight ≡ None → behind x (f n) ≡ behind x (joined f (n + 1))
  weigh-first e = sym (behind_more x f n ∙ rw (sym is ∙ e))

-- a bit of a piece has as many of the piece's bits behind it, and they are few
pub piece_most : (vs : List ℕ) (at x m : ℕ) → get_or vs (at + 1) 0 < 2 ^ 32 → 2 ^ 32 ≤ m → IfSome (behind x (piece_bits (piece_in vs at))) (λ w. w ≤ m)
piece_most vs at x m lt le = go (behind x (piece_bits (piece_in vs at))) (behind-few x (piece_bits (piece_in vs at)))
  where
    few : length (piece_bits (piece_in vs at)) ≤ 2 ^ 32
    few = rw length-down (omega arith)

    go : (o : Option ℕ) → IfSome o (λ w. w ≤ length (piece_bits (piece_in vs at))) → IfSome o (λ w. w ≤ m)
    go None h = tt
    go (Some w) h = omega (arith, few)
