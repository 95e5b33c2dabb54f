-- Any calls in any order, each lent tables of its own, text after text: what they are answered with is what one would
-- answer who keeps the text itself, however long, and no store and no number. Assumes nothing.
use Rattle.std.specs.Prelude.{ℕ, ◌≡◌, cond, List, [], ◌∷◌, ◌++◌, length}
use Rattle.tables.specs.View.{Tables}
use Rattle.loader.specs.Verdict.{refused}
use Rattle.loader.specs.Load.{Loaded, is_long, load_of}
use Rattle.pieces.specs.Pieces.{Reply, more, stopped, Held, held_as, is_short_for, piece_of, end_of}

pub data Call : Type 0 where
  Piece : Tables → List ℕ → Call
  End : Tables → Call

-- a reply to a piece; to the end call a verdict, and the tables that it leaves
pub data Answer : Type 0 where
  Replied : Reply → Answer
  Judged : Loaded → Answer

-- the two calls, made one after the other
unfoldable pub answered : Held → List Call → List Answer
answered h [] = []
answered h (Piece t piece ∷ calls) = Replied (piece_of t h piece).reply ∷ answered (piece_of t h piece).held calls
answered h (End t ∷ calls) = Judged (end_of t h).loaded ∷ answered (held_as h.store (end_of t h).taken) calls

-- ── the text itself, for a store of this size ──

abbrev pub reply_due : Tables → ℕ → List ℕ → List ℕ → Reply
reply_due t size text piece = cond (is_short_for t size) (stopped 1 0) (cond (is_long (text ++ piece)) (stopped 2 0) more)

abbrev pub verdict_due : Tables → ℕ → List ℕ → Loaded
verdict_due t size text = cond (is_short_for t size) (record { verdict = refused 1 0; tables = t }) (load_of text t)

-- a call that is refused by 1 leaves the text as it was
abbrev pub text_after : Tables → ℕ → List ℕ → List ℕ → List ℕ
text_after t size text next = cond (is_short_for t size) text next

unfoldable pub due : ℕ → List ℕ → List Call → List Answer
due size text [] = []
due size text (Piece t piece ∷ calls) = Replied (reply_due t size text piece) ∷ due size (text_after t size text (text ++ piece)) calls
due size text (End t ∷ calls) = Judged (verdict_due t size text) ∷ due size (text_after t size text []) calls

abbrev pub AnyCalls : Type 0
AnyCalls = (store : List ℕ) (calls : List Call) → answered (held_as store 0) calls ≡ due (length store) [] calls
