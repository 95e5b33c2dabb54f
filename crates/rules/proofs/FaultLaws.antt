-- Faults that are none, and the numbers of those that are there.
-- Assumes nothing.
use Prim.Native.Nat.{ℕ}
use mathlib.Core.Path.{◌≡◌, refl, sym, ap, ◌∙◌}
use mathlib.Core.Bool.{Bool, true, false, not, cond, false≢true}
use lib.Dec.{eqb}
use borrow.Author.Tests.{eqb-true, ne_eqb}
use Rattle.std.specs.Prelude.{Option, Some, None}
use Rattle.std.specs.Option.{is_some, is_none, option_or}
use Rattle.std.specs.Bool.{then_some}
use Rattle.std.specs.Prelude.{MatchOption}
use Rattle.rules.specs.declared.fault.Fault.{Fault}
use Rattle.rules.specs.Fault.{fault_if, fault_of, only, or_else, is_fault, number_in}

pub is-none : (f : Option Fault) → is_fault f ≡ false → f ≡ None
is-none None e = refl
is-none (Some x) e = cc

pub not-none : (f : Option Fault) → is_fault f ≡ true → f ≡ None → ⊥
not-none None e h = cc
not-none (Some x) e h = cc

-- a test that there is none
pub is-none-of : {A : Type 0} (o : Option A) {b : Bool} → is_some o ≡ not b → b ≡ is_none o
is-none-of o {b} e = go b e
  where
    go : (b : Bool) → is_some o ≡ not b → b ≡ is_none o
    go true e = sym (ap not e)
    go false e = sym (ap not e)

-- the parts of a list of rules
pub or-none : (a b : Option Fault) → or_else a b ≡ None → (a ≡ None) × (b ≡ None)
unfolding or_else
or-none None b h = (refl, h)
or-none (Some x) b h = cc

pub if_none : (b : Bool) (number place : ℕ) → fault_if b number place ≡ None → b ≡ false
unfolding fault_if
if_none true number place h = cc
if_none false number place h = refl

pub of-none : (number place : ℕ) → fault_of number place ≡ None → number ≡ 0
unfolding fault_of
of-none number place h = go (eqb number 0) refl
  where
    go : (b : Bool) → eqb number 0 ≡ b → number ≡ 0
    go true e = eqb-true number 0 e
    go false e = absurd (false≢true (sym (if_none _ number place h) ∙ ap not e))

pub only_none : (b : Bool) (f : Option Fault) → only b f ≡ None → b ≡ true → f ≡ None
unfolding only
only_none true f h e = h
only_none false f h e = absurd (false≢true e)

-- lists of rules that the code makes from the left
pub or-three : (a b c : Option Fault) {d r : Option Fault} → d ≡ option_or a b → r ≡ option_or d c → r ≡ or_else a (or_else b c)
unfolding or_else
or-three a b c d r = r ∙ rw d (go a)
  where
    go : (a : Option Fault) → option_or (option_or a b) c ≡ option_or a (option_or b c)
    go None = refl
    go (Some x) = refl

pub or-six : (a b c d e f : Option Fault) {g h i j r : Option Fault} → g ≡ option_or a b → h ≡ option_or g c → i ≡ option_or h d → j ≡ option_or i e
    → r ≡ option_or j f → r ≡ or_else a (or_else b (or_else c (or_else d (or_else e f))))
unfolding or_else
or-six a b c d e f g h i j r =
    or-three a b (or_else c (or_else d (or_else e f))) g
    (or-three _ c (or_else d (or_else e f)) h (or-three _ d (or_else e f) i (or-three _ e f j r)))

-- what a second port or list breaks, where there is one
pub only-then : {A : Type 0} {P : A → Type 0} (b : Bool) (x : A) (f : A → Option Fault) {o : Option A} {r : Option Fault} → o ≡ then_some b x
    → MatchOption o (r ≡ None) P → ((y : A) → P y → r ≡ f y) → r ≡ only b (f x)
unfolding only
only-then {P = P} b x f {r = r} e h k = go b (rw e at h)
  where
    go : (b : Bool) → MatchOption (then_some b x) (r ≡ None) P → r ≡ cond b (f x) None
    go true h = k x h
    go false h = h

-- ---- numbers
pub if-number : (b : Bool) (number place : ℕ) → number_in (fault_if b number place) ≡ cond b number 0
unfolding fault_if
if-number true number place = refl
if-number false number place = refl

pub of-number : (number place : ℕ) → number_in (fault_of number place) ≡ number
unfolding fault_of
of-number number place = go (eqb number 0) refl
  where
    go : (b : Bool) → eqb number 0 ≡ b → number_in (fault_if (not (eqb number 0)) number place) ≡ number
    go true e = if-number _ number place ∙ rw e (sym (eqb-true number 0 e))
    go false e = if-number _ number place ∙ rw e refl

pub or-number : (f g : Option Fault) → number_in (or_else f g) ≡ cond (is_fault f) (number_in f) (number_in g)
unfolding or_else
or-number None g = refl
or-number (Some x) g = refl

-- a fault that is there has a number
abbrev pub Named : Option Fault → Type 0
Named f = is_fault f ≡ not (eqb (number_in f) 0)

pub named-none : Named None
named-none = refl

pub named-if : (b : Bool) (number place : ℕ) → (number ≡ 0 → ⊥) → Named (fault_if b number place)
unfolding fault_if
named-if true number place n = sym (ap not (ne_eqb number 0 n))
named-if false number place n = refl

pub named-only : (b : Bool) (f : Option Fault) → Named f → Named (only b f)
unfolding only
named-only true f h = h
named-only false f h = refl

pub named-or : (f g : Option Fault) → Named f → Named g → Named (or_else f g)
unfolding or_else
named-or None g h k = k
named-or (Some x) g h k = h
