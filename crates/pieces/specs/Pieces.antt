-- Descriptions that arrive in pieces: document 02, No. 12. The two calls.
-- Assumes nothing.
use Rattle.std.specs.Prelude.{ℕ, ◌+◌, Result, Ok, Err, Bool, cond, ◌||◌, List, ◌++◌, ltb, length, take, drop}
use Rattle.tables.specs.View.{Tables}
use Rattle.loader.specs.declared.verdict.Refused.{Refused}
use Rattle.loader.specs.Verdict.{refused}
use Rattle.loader.specs.Load.{Loaded, loaded, is_short, load_of}
use Rattle.pieces.specs.declared.Taken.{Taken}
use Rattle.pieces.specs.declared.Ended.{Ended}

-- what stands between two calls: the text's lent store, and how many bytes of it are taken; a number above the limit
-- says that the text passed it, so that any number has a meaning
pub record Held : Type 0 where
  pub store : List ℕ
  pub taken : ℕ

-- the reply to a piece: more, or a refusal by a number and with a place
abbrev pub Reply : Type 0
Reply = Result Unit Refused

abbrev pub more : Reply
more = Ok tt

abbrev pub stopped : ℕ → ℕ → Reply
stopped number place = Err (record { number = number; place = place })

-- what a call with a piece comes to
pub record Took : Type 0 where
  pub reply : Reply
  pub held : Held

-- what the end call comes to: the verdict, the tables that it leaves, and how many bytes are then taken
pub record Closed : Type 0 where
  pub loaded : Loaded
  pub taken : ℕ

-- as the code holds them
unfoldable pub held_as : List ℕ → ℕ → Held
held_as store taken = record { store = store; taken = taken }

unfoldable pub took_as : Taken → List ℕ → Took
took_as r store = record { reply = r.reply; held = held_as store r.taken }

unfoldable pub ended_as : Ended → List ℕ → List ℕ → List ℕ → Closed
ended_as r ps rs vs = record { loaded = loaded r.verdict ps rs vs; taken = r.taken }

-- "Refusal 1 is tested first at every call and covers the text's lent store": its stated size is the longest text's
unfoldable pub is_short_for : Tables → ℕ → Bool
is_short_for t store = is_short t || ltb store 8192

-- "refusal 2, given by the first piece that passes the limit and repeated": above the limit every piece passes it, the
-- empty one too
unfoldable pub passes : Held → List ℕ → Bool
passes h piece = ltb 8192 (h.taken + length piece)

-- a piece laid behind what is taken; what lies past it is not touched
unfoldable pub laid_at : List ℕ → ℕ → List ℕ → List ℕ
laid_at store taken piece = take taken store ++ piece ++ drop (taken + length piece) store

-- TAKING A PIECE. "Take the text in pieces of any length, empty ones included"; "Before the end call the answer is
-- "more" or refusal 2"; "3 to 16 wait for the end call". It is lent the tables for 1 alone
unfoldable pub piece_of : Tables → Held → List ℕ → Took
piece_of t h piece =
    cond (is_short_for t (length h.store)) (record { reply = stopped 1 0; held = h })
    (cond (passes h piece) (record { reply = stopped 2 0; held = held_as h.store 8193 })
    (record { reply = more; held = held_as (laid_at h.store h.taken piece) (h.taken + length piece) }))

-- ENDING. "Only the end call touches the tables", and it "starts afresh": nothing is taken then. Refused by 1 it
-- changes nothing
unfoldable pub end_of : Tables → Held → Closed
end_of t h =
    cond (is_short_for t (length h.store)) (record { loaded = record { verdict = refused 1 0; tables = t }; taken = h.taken })
    (cond (ltb 8192 h.taken) (record { loaded = record { verdict = refused 2 0; tables = t }; taken = 0 })
    (record { loaded = load_of (take h.taken h.store) t; taken = 0 }))
