-- Any calls in any order: a call keeps what stands in step with the text itself. Assumes nothing.
use Prim.Native.Nat.{ℕ}
use mathlib.Core.Path.{◌≡◌, refl, ap, ◌∙◌}
use mathlib.Core.Bool.{Bool, true, false}
use mathlib.Core.List.{List, [], ◌∷◌, ◌++◌}
use mathlib.Core.Logic.{inl}
use native.Mathlib.Omega.{arith}
use lib.ListN.{length}
use Rattle.tables.specs.View.{Tables}
use Rattle.pieces.specs.Pieces.{Held, held_as, is_short_for, piece_of, end_of}
use Rattle.pieces.specs.Calls.{Call, Piece, End, answered, reply_due, verdict_due, text_after, due, AnyCalls}
use Rattle.pieces.proofs.Holding.{Holds, at_first, after-piece, replies, ends, starts-afresh}

module _ (t : Tables) (size : ℕ) (h : Held) (text : List ℕ) (held : Holds size h text) where
  here : (b : Bool) → is_short_for t size ≡ b → is_short_for t (length h.store) ≡ b
  here b e = ap (is_short_for t) held.as_long ∙ e

  replied : (piece : List ℕ) → (piece_of t h piece).reply ≡ reply_due t size text piece
  unfolding piece_of
  replied piece = go (is_short_for t size) refl
    where
      go : (b : Bool) → is_short_for t size ≡ b → (piece_of t h piece).reply ≡ reply_due t size text piece
      go true e = rw (here true e, e)
      go false e = replies t size h text e held piece ∙ rw e

  taken_on_lem : (piece : List ℕ) → Holds size (piece_of t h piece).held (text_after t size text (text ++ piece))
  unfolding piece_of
  taken_on_lem piece = go (is_short_for t size) refl
    where
      go : (b : Bool) → is_short_for t size ≡ b → Holds size (piece_of t h piece).held (text_after t size text (text ++ piece))
      go true e = rw (here true e, e) held
      go false e = rw e (after-piece t size h text e held piece)

  judged : (end_of t h).loaded ≡ verdict_due t size text
  unfolding end_of
  judged = go (is_short_for t size) refl
    where
      go : (b : Bool) → is_short_for t size ≡ b → (end_of t h).loaded ≡ verdict_due t size text
      go true e = rw (here true e, e)
      go false e = ends t size h text e held ∙ rw e

  ended-on : Holds size (held_as h.store (end_of t h).taken) (text_after t size text [])
  unfolding end_of held_as
  ended-on = go (is_short_for t size) refl
    where
      go : (b : Bool) → is_short_for t size ≡ b → Holds size (held_as h.store (end_of t h).taken) (text_after t size text [])
      go true e = rw (here true e, e) (record { as_long = held.as_long; which = held.which })
      go false e = rw (e, starts-afresh t size h text e held) (record { as_long = held.as_long; which = inl (refl, omega arith, refl) })

goes_on : (size : ℕ) (calls : List Call) (h : Held) (text : List ℕ) → Holds size h text → answered h calls ≡ due size text calls
unfolding answered due
goes_on size [] h text held = refl
goes_on size (Piece t piece ∷ calls) h text held =
    rw (replied t size h text held piece, goes_on size calls (piece_of t h piece).held (text_after t size text (text ++ piece)) (taken_on_lem t size h text held piece))
goes_on size (End t ∷ calls) h text held =
    rw (judged t size h text held, goes_on size calls (held_as h.store (end_of t h).taken) (text_after t size text []) (ended-on t size h text held))

pub any-calls : AnyCalls
any-calls store calls = goes_on (length store) calls (held_as store 0) [] (at_first store)
