-- A loop that spells sixteen digits from the last on: its start, a turn, its end. Assumes nothing.
use Prim.Native.Nat.{ℕ, zero, suc, ◌≤◌, ◌<◌, ◌+◌, ◌/◌, ◌%◌}
use native.Mathlib.Omega.{arith}
use borrow.Author.Tests.{lt-ltb, le-ltb}
use mathlib.Core.Path.{◌≡◌, ◌∙◌, sym, ap}
use mathlib.Core.List.{List, ◌∷◌}
use lib.ListN.{length, set, drop, length-set, drop_of_length-le}
use lib.Seq.{drop-cons, drop-set-lt, get_or-set_same}
use Rattle.script.specs.Patterns.{figure_of, digits_before, digits_of}

pub record Spelled (bits : ℕ) (digits : List ℕ) (rest i : ℕ) : Type 0 where
  pub most : i ≤ 16
  pub long : length digits ≡ 16
  pub to-come : digits_of bits ≡ digits_before i rest (drop i digits)

pub none-spelled : (bits : ℕ) (digits : List ℕ) → length digits ≡ 16 → Spelled bits digits bits 16
unfolding digits_of
none-spelled bits digits l = record { most = omega arith; long = l; to-come = rw (drop_of_length-le digits {i = 16} (omega arith)) }

pub one_more_lem : (bits : ℕ) (digits : List ℕ) (rest i k figure : ℕ) → i ≡ suc k → Spelled bits digits rest i → figure ≡ figure_of (rest % 16)
    → Spelled bits (set digits k figure) (rest / 16) k
unfolding digits_before
one_more_lem bits digits rest i k figure here s is =
    let before : digits_of bits ≡ digits_before (suc k) rest (drop (suc k) digits) = rw here at s.to-come in
    record {
      most = omega (arith, s.most);
      long = length-set digits k figure ∙ s.long;
      to-come =
          before
          ∙ ap (λ (x : ℕ). digits_before k (rest / 16) (x ∷ drop (suc k) digits)) (sym is)
          ∙ ap (digits_before k (rest / 16))
          (sym (drop-cons (set digits k figure) k 0 (omega (arith, length-set digits k figure, s.long, s.most))
          ∙ rw (get_or-set_same digits k figure 0 (omega (arith, s.long, s.most)), drop-set-lt (suc k) digits k figure (omega arith))));
    }

pub all-spelled : (bits : ℕ) (digits : List ℕ) (rest i : ℕ) → i ≤ 0 → Spelled bits digits rest i → digits ≡ digits_of bits
unfolding digits_before
all-spelled bits digits rest zero none s = sym s.to-come
all-spelled bits digits rest (suc i) none s = absurd (omega arith)

-- ── one digit ──

pub low-figure : (digit : ℕ) → digit < 10 → 48 + digit ≡ figure_of digit
unfolding figure_of
low-figure digit low = rw (lt-ltb digit 10 low)

pub high-figure : (digit : ℕ) → 10 ≤ digit → 55 + digit ≡ figure_of digit
unfolding figure_of
high-figure digit high = rw (le-ltb digit 10 high)
