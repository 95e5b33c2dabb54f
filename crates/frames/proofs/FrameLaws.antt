-- Where a frame lies in its input. Assumes nothing.
use Prim.Native.Nat.{ℕ, ◌+◌, ◌-◌, ◌≤◌, ◌<◌}
use mathlib.Core.Bool.{Bool, true, false, cond, ◌&&◌, and-false}
use mathlib.Core.List.{List}
use mathlib.Core.Path.{◌≡◌, refl, sym, ap, ◌∙◌}
use native.Mathlib.Omega.{arith}
use lib.Dec.{leb, eqb}
use lib.ListN.{length, take, drop}
use borrow.Author.Tests.{le-leb, lt-leb, leb-true, leb-false}
use Rattle.token.specs.Bytes.{bytes, same}
use Rattle.script.specs.Words.{line_end, word_of, rest_of}
use Rattle.script.specs.Numbers.{number_of}
use Rattle.script.proofs.WordLaws.{line_on}
use Rattle.frames.specs.Frames.{headed, ends_at, enclosed, framed, line_at, headed_at, Lies}
use Rattle.std.specs.Prelude.{Option, Some, None, IfSome}

enclosed-within : (input : List ℕ) (at start n : ℕ) → at < start → at < length input → IfSome (enclosed input start n) (Lies input at)
unfolding enclosed
enclosed-within input at start n h inside = go (leb (start + n) (length input)) (ends_at input (start + n)) refl
  where
    go :
        (fits ends : Bool) → leb (start + n) (length input) ≡ fits
        → IfSome (cond (fits && ends) (Some (record { start = start; end = start + n; next = start + n + 1 })) None) (Lies input at)
    go true true e = record { began = inside; ordered = omega arith; inside = leb-true (start + n) (length input) e; onward = omega arith }
    go true false e = tt
    go false ends e = tt

framed-within : (input : List ℕ) (at start : ℕ) (bytes : Option ℕ) → at < start → at < length input → IfSome (framed input start bytes) (Lies input at)
unfolding framed
framed-within input at start (Some n) h inside = enclosed-within input at start n h inside
framed-within input at start None h inside = tt

pub frame-within : (head input : List ℕ) (at : ℕ) → IfSome (headed_at head input at) (Lies input at)
unfolding headed_at
frame-within head input at = go (leb (length input) at) refl
  where
    go :
        (over : Bool) → leb (length input) at ≡ over
        → IfSome (elim over [ true ↦ None | false ↦ framed input (line_end input at + 1) (headed head (line_at input at)) ]) (Lies input at)
    go true e = tt
    go false e = framed-within input at (line_end input at + 1) (headed head (line_at input at)) (omega (arith, line_on input at)) (leb-false (length input) at e)

-- the frame of as many bytes as its line says
pub headed-framed :
    (head input : List ℕ) (at end : ℕ) (bytes : Option ℕ) → at < length input → end ≡ line_end input at
    → bytes ≡ headed head (take (end - at) (drop at input)) → framed input (end + 1) bytes ≡ headed_at head input at
unfolding headed_at
headed-framed head input at end bytes inside is e = rw (lt-leb (length input) at inside, headed_at, e, is)

-- the frame, or that there is none, as the code's tests find it
module _ (input : List ℕ) (start n : ℕ) where
  pub enclosed-short : length input < start + n → enclosed input start n ≡ None
  unfolding enclosed
  enclosed-short h = rw (lt-leb (start + n) (length input) h)

  pub enclosed-runs-on : ends_at input (start + n) ≡ false → enclosed input start n ≡ None
  unfolding enclosed
  enclosed-runs-on e = rw (e, and-false (leb (start + n) (length input)))

  pub enclosed-whole :
      start + n ≤ length input → ends_at input (start + n) ≡ true
      → enclosed input start n ≡ Some (record { start = start; end = start + n; next = start + n + 1 })
  unfolding enclosed
  enclosed-whole fits e = rw (le-leb (start + n) (length input) fits, e)

-- what a line says, by its words as the code takes them
module _
    (head line tail more third first : List ℕ) (is-head : Bool)
    (e₁ : tail ≡ rest_of line) (e₂ : more ≡ rest_of tail) (e₃ : third ≡ word_of more) (e₄ : first ≡ word_of line) (e₅ : is-head ≡ same first head)
  where
    test-is : (is-head && eqb (length third) 0) ≡ (same (word_of line) head && eqb (length (word_of (rest_of (rest_of line)))) 0)
    test-is = rw (e₅, e₄, e₃, e₂, e₁)

    pub headed-so : (second : List ℕ) (n : Option ℕ) → second ≡ word_of tail → n ≡ number_of second → (is-head && eqb (length third) 0) ≡ true → n ≡ headed head line
    unfolding headed
    headed-so second n e₆ e₇ passed = rw (sym test-is ∙ passed) (e₇ ∙ ap number_of (e₆ ∙ ap word_of e₁))

    pub headed-not : (is-head && eqb (length third) 0) ≡ false → None ≡ headed head line
    unfolding headed
    headed-not failed = rw (sym test-is ∙ failed)
