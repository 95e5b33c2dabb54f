-- What the code of the two calls cites. Assumes nothing.
use Prim.Native.Nat.{ℕ, ◌+◌, ◌-◌, ◌≤◌, ◌<◌}
use mathlib.Core.Path.{◌≡◌, sym, ap, ◌∙◌}
use mathlib.Core.Bool.{Bool, false}
use mathlib.Core.List.{List, ◌++◌, append_assoc}
use native.Mathlib.Numerals.{add-one}
use native.Mathlib.Omega.{arith}
use lib.ListN.{length, take, drop, set, get_or}
use lib.Seq.{take-length, drop-drop, paste, paste-suc}
use borrow.Author.Tests.{le-ltb}
use Rattle.tables.specs.View.{Tables}
use Rattle.loader.specs.Verdict.{Verdict}
use Rattle.loader.specs.Load.{loaded, load_of}
use Rattle.pieces.specs.Pieces.{more, held_as, took_as, is_short_for, passes, laid_at, ended_as, piece_of, end_of}
use Rattle.pieces.proofs.Holding.{room}

-- a piece laid behind what is taken
pub laid-is : (store piece : List ℕ) (taken : ℕ) {part : List ℕ} → part ≡ piece
    → take taken store ++ (part ++ drop (taken + length piece - taken) (drop taken store)) ≡ laid_at store taken piece
unfolding laid_at
laid-is store piece taken e =
    let m : taken + length piece - taken ≡ length piece = omega arith in
    rw (e, m, drop-drop (length piece) taken store, append_assoc)

-- a turn of the loop that lays a piece
pub laid-turn : (store now piece : List ℕ) (taken i : ℕ) → taken + length piece ≤ length store → i < length piece → now ≡ paste store taken piece i
    → set now (taken + i) (get_or piece i 0) ≡ paste store taken piece (i + 1)
laid-turn store now piece taken i room more is =
    ap (λ (l : List ℕ). set l (taken + i) (get_or piece i 0)) is ∙ paste-suc store taken piece i 0 (omega arith) more ∙ ap (paste store taken piece) (sym (add-one i))

pub laid-all : (store now piece : List ℕ) (taken i : ℕ) → i ≤ length piece → length piece ≤ i → now ≡ paste store taken piece i → now ≡ laid_at store taken piece
unfolding laid_at
laid-all store now piece taken i few all is =
    let end : i ≡ length piece = omega arith in
    is ∙ ap (paste store taken piece) end ∙ ap (λ (l : List ℕ). take taken store ++ l ++ drop (taken + length piece) store) (take-length piece)

-- a piece that was laid
pub took-is : (t : Tables) (store piece : List ℕ) (taken : ℕ) {after : List ℕ} {short : Bool} → short ≡ is_short_for t (length store) → short ≡ false → taken + length piece ≤ 8192
    → after ≡ laid_at store taken piece → took_as (record { reply = more; taken = taken + length piece }) after ≡ piece_of t (held_as store taken) piece
unfolding took_as piece_of passes held_as
took-is t store piece taken is long few e = rw (sym is ∙ long, le-ltb 8192 (taken + length piece) few, e)

-- what is within the limit is within the store
pub stored-long : (t : Tables) (taken n : ℕ) {short : Bool} → short ≡ is_short_for t n → short ≡ false → taken ≤ 8192 → taken ≤ n
stored-long t taken n is long few = omega (arith, few, room t n (sym is ∙ long))

-- the tables that a load leaves, and that it was the load of what is taken
pub ended_is : (t : Tables) (store : List ℕ) (taken : ℕ) (answer : Verdict) (p r v : List ℕ) {b : Bool} → b ≡ is_short_for t (length store) → b ≡ false → taken ≤ 8192
    → loaded answer p r v ≡ load_of (take taken store) t → ended_as (record { verdict = answer; taken = 0 }) p r v ≡ end_of t (held_as store taken)
unfolding ended_as end_of held_as
ended_is t store taken answer p r v is long few e = rw (sym is ∙ long, le-ltb 8192 taken few, e)
