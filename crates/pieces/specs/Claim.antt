-- What the two calls come to: document 02, No. 12, sentence by sentence.
-- Assumes nothing.
use Rattle.std.specs.Prelude.{ℕ, ◌≡◌, true, false, cond, length}
use mathlib.Core.List.{List, [], ◌∷◌, ◌++◌, foldl}
use Rattle.tables.specs.View.{Tables}
use Rattle.loader.specs.Verdict.{refused}
use Rattle.loader.specs.Load.{is_long, load_of}
use Rattle.pieces.specs.Pieces.{more, stopped, Held, held_as, is_short_for, piece_of, end_of}

-- the whole text: all pieces, in their order
unfoldable pub joined : List (List ℕ) → List ℕ
joined [] = []
joined (piece ∷ pieces) = piece ++ joined pieces

-- what stands after pieces, one after the other
unfoldable pub after : Tables → Held → List (List ℕ) → Held
after t h pieces = foldl (λ (now : Held) (piece : List ℕ). (piece_of t now piece).held) h pieces

-- one text, from a store of which nothing is taken, with nothing that is short
pub record HoweverCut (t : Tables) (store : List ℕ) (pieces : List (List ℕ)) : Type 0 where
  -- "However it is cut, the verdict, counts, place and tables equal those of the whole text"
  pub whole : (end_of t (after t (held_as store 0) pieces)).loaded ≡ load_of (joined pieces) t
  -- "Before the end call the answer is "more" or refusal 2, given by the first piece that passes the limit"
  pub answers : (piece : List ℕ) → (piece_of t (after t (held_as store 0) pieces) piece).reply ≡ cond (is_long (joined pieces ++ piece)) (stopped 2 0) more
  -- "and repeated up to": by every piece behind it, whichever
  pub repeated : is_long (joined pieces) ≡ true → (piece : List ℕ) → (piece_of t (after t (held_as store 0) pieces) piece).reply ≡ stopped 2 0
  -- "and by the end call", which leaves the tables as they were
  pub by_the_end : is_long (joined pieces) ≡ true → (end_of t (after t (held_as store 0) pieces)).loaded ≡ record { verdict = refused 2 0; tables = t }
  -- "which starts afresh": nothing is taken, of a store that is as long as it was
  pub afresh : (end_of t (after t (held_as store 0) pieces)).taken ≡ 0
  pub as_long : length (after t (held_as store 0) pieces).store ≡ length store

abbrev pub EveryCut : Type 0
EveryCut = (t : Tables) (store : List ℕ) (pieces : List (List ℕ)) → is_short_for t (length store) ≡ false → HoweverCut t store pieces

-- "Refusal 1 is tested first at every call": whatever is taken and whatever the piece, the answer is 1 and all stays
pub record ShortFirst (t : Tables) (h : Held) : Type 0 where
  pub at-a-piece : (piece : List ℕ) → piece_of t h piece ≡ record { reply = stopped 1 0; held = h }
  pub at_the_end : end_of t h ≡ record { loaded = record { verdict = refused 1 0; tables = t }; taken = h.taken }

abbrev pub EveryShort : Type 0
EveryShort = (t : Tables) (h : Held) → is_short_for t (length h.store) ≡ true → ShortFirst t h
