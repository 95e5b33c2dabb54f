-- Laws of tests, beside those that the kit has in Core.Bool and Author.Tests.
-- Assumes nothing.
use mathlib.Core.Path.{◌≡◌, refl, sym, ◌∙◌}
use mathlib.Core.Bool.{Bool, true, false, not, cond, ◌&&◌, ◌||◌, true≢false, false≢true}
use mathlib.Core.Logic.{◌⊎◌, inl, inr}

pub either : (b : Bool) → (b ≡ true) ⊎ (b ≡ false)
either true = inl refl
either false = inr refl

-- what a test of two says of each
pub and_left : (a b : Bool) → (a && b) ≡ true → a ≡ true
and_left true b e = refl
and_left false b e = e

pub and_right : (a b : Bool) → (a && b) ≡ true → b ≡ true
and_right true b e = e
and_right false b e = absurd (false≢true e)

pub both : (a b : Bool) → (a && b) ≡ true → (a ≡ true) × (b ≡ true)
both a b e = (and_left a b e, and_right a b e)

pub or_left : (a b : Bool) → (a || b) ≡ false → a ≡ false
or_left true b e = e
or_left false b e = refl

pub or_right : (a b : Bool) → (a || b) ≡ false → b ≡ false
or_right true b e = absurd (true≢false e)
or_right false b e = e

-- the second test matters only where the first passes
pub and_same : (a : Bool) {b c : Bool} → (a ≡ true → b ≡ c) → (a && b) ≡ (a && c)
and_same true h = h refl
and_same false h = refl

-- a branch whose arms are the same
pub cond_same : {A : Type 0} (b : Bool) (x : A) → x ≡ cond b x x
cond_same true x = refl
cond_same false x = refl

-- what matters only where a test passes
pub cond-or : (a b : Bool) → (not a || b) ≡ cond a b true
cond-or true b = refl
cond-or false b = refl

-- what a test `if !f(..)` tells of the definition that f's answer equals
pub failed : {answer meaning : Bool} → answer ≡ meaning → answer ≡ false → meaning ≡ false
failed e t = sym e ∙ t

pub passed : {answer meaning : Bool} → answer ≡ meaning → answer ≡ true → meaning ≡ true
passed e t = sym e ∙ t

-- chains of tests, by the first that does not pass
pub first-fails : {a : Bool} (b : Bool) → a ≡ false → (a && b) ≡ false
first-fails b p = rw p

pub second-fails : {a b : Bool} (c : Bool) → a ≡ true → b ≡ false → (a && (b && c)) ≡ false
second-fails c p q = rw (p, q)

pub third-decides : {a b : Bool} (c : Bool) → a ≡ true → b ≡ true → (a && (b && c)) ≡ c
third-decides c p q = rw (p, q)
