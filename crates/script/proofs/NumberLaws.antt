-- One step along the digits of a number. Assumes nothing.
use mathlib.Core.Bool.{Bool, false, ◌&&◌, and-false}
use mathlib.Core.List.{List, [], ◌∷◌}
use mathlib.Core.Path.{◌≡◌, refl, sym, ap, subst, ◌∙◌}
use Prim.Native.Nat.{ℕ, zero, suc, ◌+◌, ◌*◌, ◌≤◌, ◌<◌, ◌^◌}
use native.Mathlib.Omega.{arith}
use lib.Dec.{ltb}
use lib.IntN.{ℤ, pos, negsuc, ◌-ℤ◌}
use lib.ListN.{length, get_or, take, drop, drop_of_length-le}
use borrow.Author.Tests.{lt-ltb, le-ltb}
use Rattle.std.specs.Prelude.{nat_eq, FitsSigned, Option, Result, Ok, Err, SomeIff, OkIff}
use Rattle.std.specs.Result.{result_ok}
use Rattle.std.specs.Char.{digit_value}
use Rattle.std.specs.Cmp.Lexicographic.{pointwise}
use Rattle.std.proofs.lemmas.Bool.Decides.{nat_tests}
use mir.Syntax.{w64}
use Rattle.token.specs.Bytes.{within}
use mathlib.Core.Logic.{inl, inr}
use Rattle.token.proofs.Bools.{le-or-lt}
use Rattle.token.specs.Number.{digit_of, is_digit}
use Rattle.token.proofs.RunSteps.{to-come}
use Rattle.token.specs.Bytes.{begins}
use Rattle.script.specs.Numbers.{figures, figures_from, natural, negated}
use Rattle.std.specs.declared.option.Option.TheVariants.{None, Some}

-- what a slice begins with, as `strip_prefix` tests it
pub begins-taken : (p s : List ℕ) → pointwise nat_eq (take (length p) s) p ≡ begins p s
unfolding begins
begins-taken [] s = refl
begins-taken (a ∷ p) [] = refl
begins-taken (a ∷ p) (x ∷ s) = ap (λ (b : Bool). nat_eq x a && b) (begins-taken p s)

-- a digit as `to_digit` tells it
pub digit-same : (radix x : ℕ) → radix ≤ 16 → digit_value x < radix → digit_of x ≡ digit_value x
unfolding digit_of within
digit-same radix x most h = grind (arith, nat_tests)

pub digit-none : (radix x : ℕ) → radix ≤ 16 → (digit_value x < radix → ⊥) → is_digit radix x ≡ false
unfolding is_digit digit_of within
digit-none radix x most h = grind (arith, nat_tests)

pub figures-none : (radix : ℕ) (word : List ℕ) → length word ≡ 0 → figures radix word ≡ None
unfolding figures
figures-none radix [] h = refl
figures-none radix (x ∷ s) h = absurd (omega arith)

pub figures-some : (radix : ℕ) (word : List ℕ) → (length word ≡ 0 → ⊥) → figures radix word ≡ figures_from radix word 0
unfolding figures
figures-some radix [] h = absurd (h refl)
figures-some radix (x ∷ s) h = refl

module _ (radix : ℕ) (word : List ℕ) (i v : ℕ) where
  pub figures-end : length word ≤ i → figures_from radix (drop i word) v ≡ Some v
  unfolding figures_from
  figures-end h = rw (drop_of_length-le word h)

  module _ (most : radix ≤ 16) (inside : i < length word) where
    pub figures-no-digit : (digit_value (get_or word i 0) < radix → ⊥) → figures_from radix (drop i word) v ≡ None
    unfolding figures_from
    figures-no-digit h = rw (to-come word i inside, digit-none radix (get_or word i 0) most h, figures_from)

    module _ (digit : digit_value (get_or word i 0) < radix) where
      same-digit : digit_of (get_or word i 0) ≡ digit_value (get_or word i 0)
      same-digit = digit-same radix (get_or word i 0) most digit

      pub figures-too_large : (v * radix + digit_value (get_or word i 0) < 2 ^ 64 → ⊥) → figures_from radix (drop i word) v ≡ None
      unfolding figures_from is_digit
      figures-too_large h =
          let large : 2 ^ 64 ≤ v * radix + digit_value (get_or word i 0) = elim (le-or-lt (2 ^ 64) _) [ inl l ↦ l | inr s ↦ absurd (h s) ] in
          rw (to-come word i inside, same-digit, le-ltb (v * radix + digit_value (get_or word i 0)) (2 ^ 64) large, and-false (ltb (digit_value (get_or word i 0)) radix), figures_from)

      pub figures-on :
          v * radix + digit_value (get_or word i 0) < 2 ^ 64
          → figures_from radix (drop i word) v ≡ figures_from radix (drop (i + 1) word) (v * radix + digit_value (get_or word i 0))
      unfolding figures_from is_digit
      figures-on h = rw (to-come word i inside, same-digit, lt-ltb _ _ digit, lt-ltb (v * radix + digit_value (get_or word i 0)) (2 ^ 64) h, figures_from) (ap (λ (d : ℕ). figures_from radix (drop (i + 1) word) (v * radix + d)) same-digit)

-- a number as a value, and its negative, as the machine's own conversion and subtraction test them
pub natural-tried : {E : Type 0} (n : ℕ) (r : Result ℤ E) → OkIff r (FitsSigned w64 (pos n)) (pos n) → result_ok r ≡ natural (Some n)
unfolding natural
natural-tried n (Ok z) h = let f : n < 2 ^ 63 = h.0.sfits in rw (lt-ltb n (2 ^ 63) f) (ap Some h.1)
natural-tried n (Err e) h = rw (le-ltb n (2 ^ 63) (elim (le-or-lt (2 ^ 63) n) [ inl large ↦ large | inr small ↦ absurd (h (record { sfits = small })) ]))

from_zero : (k : ℕ) → pos 0 -ℤ pos (suc k) ≡ negsuc k
from_zero k = rw (lt-ltb 0 (suc k) (omega arith)) (ap negsuc (omega arith))

pub negated-tried : (n : ℕ) (r : Option ℤ) → SomeIff r (FitsSigned w64 (pos 0 -ℤ pos n)) (pos 0 -ℤ pos n) → r ≡ negated (Some n)
unfolding negated
negated-tried zero (Some z) h = ap Some h.1
negated-tried zero None h = let f : FitsSigned w64 (pos 0) = record { sfits = omega arith } in absurd (h f)
negated-tried (suc k) (Some z) h =
    let f : FitsSigned w64 (negsuc k) = subst (FitsSigned w64) (from_zero k) h.0 in
    let small : k < 2 ^ 63 = f.sfits in
    rw (lt-ltb k (2 ^ 63) small) (ap Some (h.1 ∙ from_zero k))
negated-tried (suc k) None h =
    elim (le-or-lt (2 ^ 63) k) [
      | inl large ↦ rw (le-ltb k (2 ^ 63) large)
      | inr small ↦ let f : FitsSigned w64 (negsuc k) = record { sfits = small } in absurd (h (subst (FitsSigned w64) (sym (from_zero k)) f))
    ]
