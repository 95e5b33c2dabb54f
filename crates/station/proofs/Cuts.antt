-- The number without its bits above a register's width (`cut_to`): what an opening keeps of the numbers that it is
-- lent, and the bits that stay. Assumes nothing.
use Prim.Native.Nat.{ℕ, zero, suc, ◌+◌, ◌^◌, ◌<◌}
use native.Mathlib.Omega.{arith}
use native.Mathlib.Nat.{mod-eq_of_lt, not-suc-le-zero}
use mathlib.Core.Path.{◌≡◌, refl, sym, ap, ◌∙◌}
use mathlib.Core.Bool.{Bool, true, false}
use mathlib.Core.List.{List, [], ◌∷◌, ◌++◌}
use lib.Dec.{ltb}
use lib.ListN.{length, get_or, length-append, get_or-append}
use lib.Seq.{get_or-append-add}
use borrow.Author.Tests.{ltb-true, ltb-false}
use Rattle.std.specs.List.{EachIndex, slice_index}
use Rattle.std.proofs.lemmas.Grind.{same_number_lists}
use Rattle.bits.specs.Bits.{bit}
use Rattle.bits.proofs.BitLaws.{number-low, bit-number}
use Rattle.tables.specs.View.{Tables, register_width}
use Rattle.station.specs.Station.{power_of}
use Rattle.station.specs.Calls.{cut_to, numbers_in}

pub numbers-long : (t : Tables) (power : List ℕ) (n : ℕ) → length (numbers_in t power n) ≡ n
unfolding numbers_in
numbers-long t power zero = refl
numbers-long t power (suc n) = length-append (numbers_in t power n) (cut_to t n (get_or power n 0) ∷ []) ∙ omega (arith, numbers-long t power n)

pub numbers-at : (t : Tables) (power : List ℕ) (n r : ℕ) → r < n → get_or (numbers_in t power n) r 0 ≡ cut_to t r (get_or power r 0)
unfolding numbers_in
numbers-at t power zero r l = absurd (not-suc-le-zero l)
numbers-at t power (suc n) r l = go (λ m. numbers-at t power n r m) (ltb r n) refl
  where
    long : length (numbers_in t power n) ≡ n
    long = numbers-long t power n

    last : List ℕ
    last = cut_to t n (get_or power n 0) ∷ []

    go : (r < n → get_or (numbers_in t power n) r 0 ≡ cut_to t r (get_or power r 0)) → (b : Bool) → ltb r n ≡ b
        → get_or (numbers_in t power n ++ last) r 0 ≡ cut_to t r (get_or power r 0)
    go earlier true e = get_or-append (numbers_in t power n) last 0 r (omega (arith, long, ltb-true r n e)) ∙ earlier (ltb-true r n e)
    go earlier false e =
        let same : r ≡ n = omega (arith, ltb-false r n e) in
        let here : r ≡ length (numbers_in t power n) + 0 = omega (arith, long) in
        ap (λ (i : ℕ). get_or (numbers_in t power n ++ last) i 0) here ∙ get_or-append-add (numbers_in t power n) last 0 0
        ∙ ap (λ (i : ℕ). cut_to t i (get_or power i 0)) (sym same)

-- a list that has at each place what an opening keeps there
pub numbers-are : (t : Tables) (power : List ℕ) (n : ℕ) (held : List ℕ) → length held ≡ n
    → EachIndex held (λ r. slice_index held r ≡ power_of t.registers power r) → held ≡ numbers_in t power n
unfolding cut_to register_width
numbers-are t power n held long each =
    same_number_lists held (numbers_in t power n) (long ∙ sym (numbers-long t power n))
    (λ k l. each k l ∙ sym (numbers-at t power n k (omega (arith, long))))

-- a number of the register's width is not changed
pub cut_small : (t : Tables) (r x : ℕ) → x < 2 ^ register_width t r → cut_to t r x ≡ x
unfolding cut_to
cut_small t r x h = mod-eq_of_lt h

-- the bits below the width are the number's
pub cut-bit : (t : Tables) (r x b : ℕ) → b < register_width t r → bit b (cut_to t r x) ≡ bit b x
unfolding cut_to
cut-bit t r x b l = ap (bit b) (sym (number-low (register_width t r) x)) ∙ bit-number (register_width t r) (λ k. bit k x) b l
