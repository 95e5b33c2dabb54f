-- The reader passes over blanks and comments as the papers say them, and over nothing else. Assumes nothing.
use mathlib.Core.Bool.{true, false, false≢true, ◌&&◌, and-false}
use mathlib.Core.List.{List, [], ◌∷◌}
use mathlib.Core.Logic.{◌⊎◌, inl, inr}
use mathlib.Core.Path.{◌≡◌, refl, sym, ap, ◌∙◌}
use Prim.Native.Nat.{ℕ, zero, suc, ◌+◌, ◌-◌, ◌≤◌}
use native.Mathlib.Omega.{arith}
use lib.Dec.{eqb}
use lib.ListN.{drop}
use lib.Seq.{drop-nil, drop-drop}
use borrow.Author.Tests.{eqb-true}
use Rattle.token.specs.Bytes.{begins, one_of}
use Rattle.token.specs.Gap.{is_blank, Inside, gap, line, block, pair, gap_from, gap_at}
use Rattle.token.specs.Scan.{scan_at}
use Rattle.token.specs.Fair.{place_of}
use Rattle.token.specs.Passed.{LineTo, at-end, at-newline, line_on, BlockTo, closes, block_on, Passed, nothing, blank, line-comment, block-comment, Unclosed, Stops}
use Rattle.token.proofs.Bools.{either-by}
use Rattle.token.proofs.Longest.{scan-place}
use Rattle.logic.proofs.Tests.{and_left, and_right}

-- what is to be shown of the place p that a reader reaches from i, by where it stands there
Right : List ℕ → Inside → ℕ → ℕ → Type 0
Right s gap i p = (i ≤ p) × Passed s (drop (p - i) s) × Stops (drop (p - i) s)
Right s line i p = (i ≤ p) × (t : List ℕ) × LineTo s t × Passed t (drop (p - i) s) × Stops (drop (p - i) s)
Right s (block opened) i p =
    ((i ≤ p) × (t : List ℕ) × BlockTo s t × Passed t (drop (p - i) s) × Stops (drop (p - i) s)) ⊎ ((p ≡ opened) × Unclosed s)
Right [] (pair then) i p = Unit {0}
Right (x ∷ s) (pair then) i p = Right s then (i + 1) p

-- a byte behind, the rest is the same
rest-is : (x : ℕ) (s : List ℕ) (i p : ℕ) → i + 1 ≤ p → drop (p - i) (x ∷ s) ≡ drop (p - (i + 1)) s
rest-is x s i p h = let e : p - i ≡ suc (p - (i + 1)) = omega arith in ap (λ (n : ℕ). drop n (x ∷ s)) e

rest-two : (x y : ℕ) (s : List ℕ) (i p : ℕ) → i + 1 + 1 ≤ p → drop (p - i) (x ∷ y ∷ s) ≡ drop (p - (i + 1 + 1)) s
rest-two x y s i p h = rest-is x (y ∷ s) i p (omega arith) ∙ rest-is y s (i + 1) p h

-- the two bytes of a pair
pair_is : (a b x y : ℕ) (s : List ℕ) → begins (a ∷ b ∷ []) (x ∷ y ∷ s) ≡ true → (x ≡ a) × (y ≡ b)
unfolding begins
pair_is a b x y s e =
    (eqb-true x a (and_left (eqb x a) (eqb y b && true) e), eqb-true y b (and_left (eqb y b) true (and_right (eqb x a) (eqb y b && true) e)))

no-pair : (a b x : ℕ) → begins (a ∷ b ∷ []) (x ∷ []) ≡ true → ⊥
unfolding begins
no-pair a b x e = false≢true (sym (and-false (eqb x a)) ∙ e)

-- each step, from what is shown behind it
module _ (x : ℕ) (i p : ℕ) where
  blank-passed : (s : List ℕ) → is_blank x ≡ true → Right s gap (i + 1) p → Right (x ∷ s) gap i p
  unfolding Right
  blank-passed s e h = rw (rest-is x s i p h.0) (omega (arith, h.0), blank e h.1, h.2)

  line-opens : (s : List ℕ) → begins (47 ∷ 47 ∷ []) (x ∷ s) ≡ true → Right s (pair line) (i + 1) p → Right (x ∷ s) gap i p
  unfolding Right
  line-opens [] e h = absurd (no-pair 47 47 x e)
  line-opens (y ∷ s) e h =
      let two = pair_is 47 47 x y s e in
      rw (rest-two x y s i p h.0, two.0, two.1) (omega (arith, h.0), line-comment h.2 h.3, h.4)

  block-opens :
      (s : List ℕ) → is_blank x ≡ false → begins (47 ∷ 47 ∷ []) (x ∷ s) ≡ false → begins (47 ∷ 42 ∷ []) (x ∷ s) ≡ true
      → Right s (pair (block i)) (i + 1) p → Right (x ∷ s) gap i p
  unfolding Right
  block-opens [] plain no_line e h = absurd (no-pair 47 42 x e)
  block-opens (y ∷ s) plain no_line e (inl h) =
      let two = pair_is 47 42 x y s e in
      rw (rest-two x y s i p h.0, two.0, two.1) (omega (arith, h.0), block-comment h.2 h.3, h.4)
  block-opens (y ∷ s) plain no_line e (inr h) =
      let here : p - i ≡ 0 = omega (arith, h.0) in
      rw here (omega (arith, h.0), nothing, (plain, no_line, λ t. h.1))

  token-stops :
      (s : List ℕ) → p ≡ i → is_blank x ≡ false → begins (47 ∷ 47 ∷ []) (x ∷ s) ≡ false → begins (47 ∷ 42 ∷ []) (x ∷ s) ≡ false → Right (x ∷ s) gap i p
  unfolding Right
  token-stops s at plain no_line no_block =
      let here : p - i ≡ 0 = omega arith in
      rw here (omega arith, nothing, (plain, no_line, λ t. absurd (false≢true (sym no_block ∙ t))))

  line-ends : (s : List ℕ) → eqb x 10 ≡ true → Right s gap (i + 1) p → Right (x ∷ s) line i p
  unfolding Right is_blank one_of
  line-ends s e h =
      rw (rest-is x s i p h.0, eqb-true x 10 e) (omega (arith, h.0), 10 ∷ s, at-newline, blank refl h.1, h.2)

  line-goes_on : (s : List ℕ) → eqb x 10 ≡ false → Right s line (i + 1) p → Right (x ∷ s) line i p
  unfolding Right
  line-goes_on s e h = rw (rest-is x s i p h.0) (omega (arith, h.0), h.1, line_on e h.2, h.3, h.4)

  block-closes : (opened : ℕ) (s : List ℕ) → begins (42 ∷ 47 ∷ []) (x ∷ s) ≡ true → Right s (pair gap) (i + 1) p → Right (x ∷ s) (block opened) i p
  unfolding Right
  block-closes opened [] e h = absurd (no-pair 42 47 x e)
  block-closes opened (y ∷ s) e h =
      let two = pair_is 42 47 x y s e in
      inl (rw (rest-two x y s i p h.0, two.0, two.1) (omega (arith, h.0), s, closes, h.1, h.2))

  block-goes_on : (opened : ℕ) (s : List ℕ) → begins (42 ∷ 47 ∷ []) (x ∷ s) ≡ false → Right s (block opened) (i + 1) p → Right (x ∷ s) (block opened) i p
  unfolding Right
  block-goes_on opened s e (inl h) = inl (rw (rest-is x s i p h.0) (omega (arith, h.0), h.1, block_on e h.2, h.3, h.4))
  block-goes_on opened s e (inr h) = inr (h.0, never)
    where
      never : Unclosed (x ∷ s)
      never zero = e
      never (suc j) = h.1 j

right : (s : List ℕ) (inside : Inside) (i : ℕ) → Right s inside i (gap_from s inside i)
unfolding gap_from Right begins
right [] gap i = rw (drop-nil {A = ℕ} (i - i)) (omega arith, nothing, tt)
right [] line i = rw (drop-nil {A = ℕ} (i - i)) (omega arith, [], at-end, nothing, tt)
right [] (block opened) i = inr (refl, λ j. rw (drop-nil {A = ℕ} j))
right [] (pair then) i = tt
right (x ∷ s) gap i =
    either-by (Right (x ∷ s) gap i) (is_blank x) (λ e. blank-passed x i _ s e (right s gap (i + 1)))
    (λ plain.
    either-by (Right (x ∷ s) gap i) (begins (47 ∷ 47 ∷ []) (x ∷ s)) (λ e. line-opens x i _ s e (right s (pair line) (i + 1)))
    (λ no_line.
    either-by (Right (x ∷ s) gap i) (begins (47 ∷ 42 ∷ []) (x ∷ s)) (λ e. block-opens x i _ s plain no_line e (right s (pair (block i)) (i + 1)))
    (λ no_block. token-stops x i i s refl plain no_line no_block)))
right (x ∷ s) line i =
    either-by (Right (x ∷ s) line i) (eqb x 10) (λ e. line-ends x i _ s e (right s gap (i + 1))) (λ e. line-goes_on x i _ s e (right s line (i + 1)))
right (x ∷ s) (block opened) i =
    either-by (Right (x ∷ s) (block opened) i) (begins (42 ∷ 47 ∷ []) (x ∷ s)) (λ e. block-closes x i _ opened s e (right s (pair gap) (i + 1)))
    (λ e. block-goes_on x i _ opened s e (right s (block opened) (i + 1)))
right (x ∷ s) (pair then) i = right s then (i + 1)

-- WHAT IS PASSED OVER, for any text and any place: from there to the token that is found stand blanks and comments
-- alone, and where the token stands neither begins; where a block comment opens there, it is never closed
pub scan-passed :
    (text : List ℕ) (at : ℕ)
    → Passed (drop at text) (drop (place_of (scan_at text at).token) text) × Stops (drop (place_of (scan_at text at).token) text)
unfolding Right
scan-passed text at =
    let there : ℕ = gap_at text gap at in
    let h = right (drop at text) gap at in
    let back : at + (there - at) ≡ there = omega (arith, h.0) in
    let rest : drop (there - at) (drop at text) ≡ drop there text = drop-drop (there - at) at text ∙ ap (λ (n : ℕ). drop n text) back in
    rw (scan-place text at, ← rest) (h.1, h.2)
