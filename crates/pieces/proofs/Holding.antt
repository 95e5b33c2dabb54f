-- What stands between two calls is the text so far, or that it is over the limit; what each call makes of that.
-- Assumes nothing.
use Prim.Native.Nat.{ℕ, ◌+◌, ◌≤◌, ◌<◌}
use mathlib.Core.Path.{◌≡◌, refl, sym, ap, ◌∙◌}
use mathlib.Core.Bool.{Bool, true, false, cond, ◌||◌, false≢true}
use mathlib.Core.List.{List, [], ◌++◌}
use mathlib.Core.Logic.{◌⊎◌, inl, inr}
use native.Mathlib.Omega.{arith}
use lib.Dec.{ltb}
use lib.ListN.{length, take, drop, length-append, length-drop}
use lib.Seq.{length-take-le, take_at}
use borrow.Author.Tests.{ltb-true, ltb-false, le-ltb, lt-ltb}
use Rattle.tables.specs.View.{Tables}
use Rattle.loader.specs.Load.{is_short, is_long, load_of}
use Rattle.pieces.specs.Pieces.{more, stopped, Held, held_as, is_short_for, passes, laid_at, piece_of, end_of}

-- the text so far stands in the store; or it is over the limit, and the number says so
abbrev pub Stands : Held → List ℕ → Type 0
Stands h text = (h.taken ≡ length text) × (h.taken ≤ 8192) × (take h.taken h.store ≡ text)

abbrev pub Over : Held → List ℕ → Type 0
Over h text = (8192 < h.taken) × (8192 < length text)

pub record Holds (size : ℕ) (h : Held) (text : List ℕ) : Type 0 where
  pub as_long : length h.store ≡ size
  pub which : Stands h text ⊎ Over h text

pub at_first : (store : List ℕ) → Holds (length store) (held_as store 0) []
unfolding held_as
at_first store = record { as_long = refl; which = inl (refl, omega arith, refl) }

-- nothing is short: the tables are not, and the store has room for the longest text
neither-short : (a b : Bool) → (a || b) ≡ false → (a ≡ false) × (b ≡ false)
neither-short true b e = absurd (false≢true (sym e))
neither-short false b e = (refl, e)

pub parts : (t : Tables) (n : ℕ) → is_short_for t n ≡ false → (is_short t ≡ false) × (ltb n 8192 ≡ false)
unfolding is_short_for
parts t n e = neither-short (is_short t) (ltb n 8192) e

pub room : (t : Tables) (n : ℕ) → is_short_for t n ≡ false → 8192 ≤ n
room t n e = ltb-false n 8192 (parts t n e).1

laid-long : (n : ℕ) (store piece : List ℕ) → n + length piece ≤ length store → length (laid_at store n piece) ≡ length store
unfolding laid_at
laid-long n store piece h =
    omega (arith, length-append (take n store ++ piece) (drop (n + length piece) store), length-append (take n store) piece, length-take-le n store (omega arith), length-drop (n + length piece) store)

laid-text : (n : ℕ) (store piece text : List ℕ) → n ≡ length text → take n store ≡ text → take (n + length piece) (laid_at store n piece) ≡ text ++ piece
unfolding laid_at
laid-text n store piece text e is =
    ap (λ (l : List ℕ). take (n + length piece) (l ++ piece ++ drop (n + length piece) store)) is
    ∙ take_at (text ++ piece) (drop (n + length piece) store) (n + length piece) (length-append text piece ∙ ap (λ (k : ℕ). k + length piece) (sym e))

module _ (t : Tables) (size : ℕ) (h : Held) (text : List ℕ) (long : is_short_for t size ≡ false) (held : Holds size h text) where
  here : is_short_for t (length h.store) ≡ false
  here = ap (is_short_for t) held.as_long ∙ long

  -- a piece goes behind the text
  pub after-piece : (piece : List ℕ) → Holds size (piece_of t h piece).held (text ++ piece)
  unfolding piece_of passes held_as
  after-piece piece = go (ltb 8192 (h.taken + length piece)) refl held.which
    where
      longer : length (text ++ piece) ≡ length text + length piece
      longer = length-append text piece

      go : (b : Bool) → ltb 8192 (h.taken + length piece) ≡ b → (Stands h text ⊎ Over h text) → Holds size (piece_of t h piece).held (text ++ piece)
      go true e (inl s) =
          rw (here, e) (record { as_long = held.as_long; which = inr (omega arith, omega (arith, longer, s.0, ltb-true 8192 (h.taken + length piece) e)) })
      go true e (inr o) = rw (here, e) (record { as_long = held.as_long; which = inr (omega arith, omega (arith, longer, o.1)) })
      go false e (inr o) = absurd (omega (arith, o.0, ltb-false 8192 (h.taken + length piece) e))
      go false e (inl s) =
          let enough : 8192 ≤ length h.store = room t (length h.store) here in
          let few : h.taken + length piece ≤ 8192 = ltb-false 8192 (h.taken + length piece) e in
          rw (here, e)
          (record {
            as_long = laid-long h.taken h.store piece (omega (arith, enough, few)) ∙ held.as_long;
            which = inl (omega (arith, s.0, longer), few, laid-text h.taken h.store piece text s.0 s.2);
          })

  -- and is answered by whether the text, with it, is over the limit
  pub replies : (piece : List ℕ) → (piece_of t h piece).reply ≡ cond (is_long (text ++ piece)) (stopped 2 0) more
  unfolding piece_of passes is_long
  replies piece = go (ltb 8192 (h.taken + length piece)) refl held.which
    where
      go : (b : Bool) → ltb 8192 (h.taken + length piece) ≡ b → (Stands h text ⊎ Over h text) → (piece_of t h piece).reply ≡ cond (is_long (text ++ piece)) (stopped 2 0) more
      go true e (inl s) = rw (here, e, length-append text piece, ← s.0, e)
      go false e (inl s) = rw (here, e, length-append text piece, ← s.0, e)
      go true e (inr o) = rw (here, e, length-append text piece, lt-ltb 8192 (length text + length piece) (omega (arith, o.1)))
      go false e (inr o) = absurd (omega (arith, o.0, ltb-false 8192 (h.taken + length piece) e))

  -- the end call loads the text
  pub ends : (end_of t h).loaded ≡ load_of text t
  unfolding end_of load_of is_long
  ends = go held.which
    where
      go : (Stands h text ⊎ Over h text) → (end_of t h).loaded ≡ load_of text t
      go (inl s) = rw (here, le-ltb 8192 h.taken s.1, s.2)
      go (inr o) = rw (here, lt-ltb 8192 h.taken o.0, (parts t size long).0, lt-ltb 8192 (length text) o.1)

  -- and starts afresh
  pub starts-afresh : (end_of t h).taken ≡ 0
  unfolding end_of
  starts-afresh = go (ltb 8192 h.taken) refl
    where
      go : (b : Bool) → ltb 8192 h.taken ≡ b → (end_of t h).taken ≡ 0
      go true e = rw (here, e)
      go false e = rw (here, e)
