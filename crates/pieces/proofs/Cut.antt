-- However a text is cut, what its end call answers is the load of the whole. Assumes nothing.
use Prim.Native.Nat.{ℕ}
use mathlib.Core.Path.{◌≡◌, refl, sym, ap, ◌∙◌, subst}
use mathlib.Core.Bool.{true, false, cond}
use mathlib.Core.List.{List, [], ◌∷◌, ◌++◌, append_assoc, append-nil}
use native.Mathlib.Omega.{arith}
use lib.ListN.{length, length-append, replicate}
use borrow.Author.Tests.{ltb-true, lt-ltb}
use Rattle.tables.specs.View.{Tables}
use Rattle.loader.specs.Verdict.{refused}
use Rattle.loader.specs.Load.{lent_as, is_short, is_long, load_of}
use Rattle.pieces.specs.Pieces.{more, stopped, Held, held_as, is_short_for, piece_of, end_of}
use Rattle.pieces.specs.Claim.{joined, after, EveryCut, EveryShort}
use Rattle.pieces.proofs.Holding.{Holds, at_first, parts, after-piece, replies, ends, starts-afresh}

-- pieces one after the other
after-pieces : (t : Tables) (size : ℕ) → is_short_for t size ≡ false → (pieces : List (List ℕ)) (h : Held) (text : List ℕ) → Holds size h text
    → Holds size (after t h pieces) (text ++ joined pieces)
unfolding joined after
after-pieces t size long [] h text held = subst (λ (l : List ℕ). Holds size h l) (sym (append-nil text)) held
after-pieces t size long (p ∷ pieces) h text held =
    subst (λ (l : List ℕ). Holds size (after t (piece_of t h p).held pieces) l) (append_assoc text p (joined pieces))
    (after-pieces t size long pieces (piece_of t h p).held (text ++ p) (after-piece t size h text long held p))

-- what is over the limit stays over it
still-long : (text piece : List ℕ) → is_long text ≡ true → is_long (text ++ piece) ≡ true
unfolding is_long
still-long text piece e = lt-ltb 8192 (length (text ++ piece)) (omega (arith, length-append text piece, ltb-true 8192 (length text) e))

-- a text over the limit is refused by 2, and the tables stay
loads-long : (t : Tables) (size : ℕ) (text : List ℕ) → is_short_for t size ≡ false → is_long text ≡ true → load_of text t ≡ record { verdict = refused 2 0; tables = t }
unfolding load_of
loads-long t size text long e = rw ((parts t size long).0, e)

-- 02, No. 12: "However it is cut"
pub however_cut : EveryCut
however_cut t store pieces long =
    let size : ℕ = length store in
    let h : Held = after t (held_as store 0) pieces in
    let held : Holds size h (joined pieces) = after-pieces t size long pieces (held_as store 0) [] (at_first store) in
    let end : (end_of t h).loaded ≡ load_of (joined pieces) t = ends t size h (joined pieces) long held in
    record {
      whole = end;
      answers = replies t size h (joined pieces) long held;
      repeated = λ over piece. replies t size h (joined pieces) long held piece ∙ ap (λ b. cond b (stopped 2 0) more) (still-long (joined pieces) piece over);
      by_the_end = λ over. end ∙ loads-long t size (joined pieces) long over;
      afresh = starts-afresh t size h (joined pieces) long held;
      as_long = held.as_long;
    }

-- 02, No. 12: "Refusal 1 is tested first at every call"
pub short-first : EveryShort
unfolding piece_of end_of
short-first t h short = record { at-a-piece = λ piece. rw short; at_the_end = rw short }

-- what the two claims suppose is there: tables and a store of their stated sizes, and a store that lacks a byte
pub met : is_short_for (lent_as (replicate 577 0) (replicate 961 0) (replicate 7553 0)) 8192 ≡ false
unfolding is_short_for is_short lent_as
met = refl

pub met-short : is_short_for (lent_as (replicate 577 0) (replicate 961 0) (replicate 7553 0)) 8191 ≡ true
unfolding is_short_for is_short lent_as
met-short = refl
