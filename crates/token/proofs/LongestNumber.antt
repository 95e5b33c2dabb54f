-- Numbers, in each radix, are the longest match. Assumes nothing.
use mathlib.Core.Bool.{Bool, true, false, ◌&&◌, ◌||◌, false≢true, and-false, or-false}
use mathlib.Core.List.{List, [], ◌∷◌}
use mathlib.Core.Logic.{inr, ⊎_elim}
use mathlib.Core.Path.{◌≡◌, refl, sym, ap, ◌∙◌}
use Prim.Native.Nat.{ℕ, zero, suc, ◌+◌, ◌-◌, ◌*◌, ◌≤◌, ◌<◌}
use native.Mathlib.Nat.{add-zero}
use native.Mathlib.Omega.{arith}
use lib.Dec.{eqb, ltb, leb}
use lib.ListN.{length, take, drop}
use lib.Seq.{take-nil}
use borrow.Author.Tests.{eqb-true, ne_eqb, lt-ltb, le-ltb, leb-true, leb-false, le-leb}
use Rattle.token.specs.Bytes.{begins, within, run_from}
use Rattle.token.specs.Word.{is_letter}
use Rattle.token.specs.Number.{digit_of, is_digit, value_from, largest, prefixed, digits_of}
use Rattle.token.specs.Scan.{bad_token, number_token, number_from}
use Rattle.token.specs.Lexeme.{many, some, is_decimal, is_hexadecimal, is_octal, is_integer, value_of, is_lexeme, NoneLonger}
use Rattle.token.proofs.Bools.{either, either-by, le-or-lt, within_both}
use Rattle.token.proofs.Numbers.{hexadecimal, octal, decimal}
use Rattle.token.proofs.RunSteps.{run_from_lem, run-ahead}
use Rattle.token.proofs.Lexemes.{run-many, run-longer, many-same, none}
use Rattle.token.proofs.FirstByte.{not-true, number-lexeme, Taken, longer-none}
use Rattle.logic.proofs.Tests.{and_left, and_right}

-- the digits of each radix are those that 001 lists
within-true : (a e x : ℕ) → a ≤ x → x ≤ e → within a e x ≡ true
unfolding within
within-true a e x h le = rw (le-leb a x h, le-leb x e le)

other-digit : (x : ℕ) → within 48 57 x ≡ false → 10 ≤ digit_of x
unfolding digit_of
other-digit x t =
    rw (t, digit_of)
    (either (λ (n : ℕ). 10 ≤ n) (within 65 70 x) (omega arith) (either (λ (n : ℕ). 10 ≤ n) (within 97 102 x) (omega arith) (omega arith)))

digit_ten : (x : ℕ) → is_digit 10 x ≡ is_decimal x
unfolding is_digit digit_of is_decimal
digit_ten x = go (within 48 57 x) refl
  where
    go : (b : Bool) → within 48 57 x ≡ b → ltb (digit_of x) 10 ≡ within 48 57 x
    go true t = rw (t, digit_of) (lt-ltb (x - 48) 10 (omega (arith, (within_both 48 57 x t).1)))
    go false t = le-ltb (digit_of x) 10 (other-digit x t) ∙ sym t

digit-eight : (x : ℕ) → is_digit 8 x ≡ is_octal x
unfolding is_digit digit_of is_octal
digit-eight x = go (within 48 57 x) refl
  where
    go : (b : Bool) → within 48 57 x ≡ b → ltb (digit_of x) 8 ≡ within 48 55 x
    go true t =
        rw (t, digit_of)
        (⊎_elim (λ small. lt-ltb (x - 48) 8 (omega arith) ∙ sym (within-true 48 55 x (within_both 48 57 x t).0 small))
        (λ large. le-ltb (x - 48) 8 (omega arith) ∙ sym (not-true (within 48 55 x) (λ e. omega (arith, (within_both 48 55 x e).1))))
        (le-or-lt x 55))
    go false t =
        le-ltb (digit_of x) 8 (omega (arith, other-digit x t))
        ∙ sym (not-true (within 48 55 x) (λ e. false≢true (sym t ∙ within-true 48 57 x (within_both 48 55 x e).0 (omega (arith, (within_both 48 55 x e).1)))))

digit_sixteen : (x : ℕ) → is_digit 16 x ≡ is_hexadecimal x
unfolding is_digit digit_of is_hexadecimal
digit_sixteen x = go (within 48 57 x) (within 65 70 x) (within 97 102 x) refl refl refl
  where
    go : (a b c : Bool) → within 48 57 x ≡ a → within 65 70 x ≡ b → within 97 102 x ≡ c → ltb (digit_of x) 16 ≡ (within 48 57 x || within 65 70 x || within 97 102 x)
    go true b c t u w = rw (t, digit_of) (lt-ltb (x - 48) 16 (omega (arith, (within_both 48 57 x t).1)))
    go false true c t u w = rw (t, u, digit_of) (lt-ltb (x - 65 + 10) 16 (omega (arith, (within_both 65 70 x u).1)))
    go false false true t u w = rw (t, u, w, digit_of) (lt-ltb (x - 97 + 10) 16 (omega (arith, (within_both 97 102 x w).1)))
    go false false false t u w = rw (t, u, w, digit_of)

-- the digits of a slice have the value of the digits there
value-take : (radix : ℕ) (s : List ℕ) (i n v : ℕ) → run_from (is_digit radix) s i ≡ i + n → value_from radix (take n s) v ≡ value_from radix s v
unfolding value_from run_from
value-take radix [] i n v e = rw (take-nil {A = ℕ} n)
value-take radix (x ∷ s) i zero v e = go (is_digit radix x) refl
  where
    go : (b : Bool) → is_digit radix x ≡ b → v ≡ value_from radix (x ∷ s) v
    go true t = absurd (let h : run_from (is_digit radix) s (i + 1) ≡ i + 0 = rw (t, run_from) at e in omega (arith, (run_from_lem (is_digit radix) s (i + 1)).0))
    go false t = rw (t, value_from)
value-take radix (x ∷ s) i (suc n) v e = go (is_digit radix x) refl (value-take radix s (i + 1) n (v * radix + digit_of x))
  where
    go : (b : Bool) → is_digit radix x ≡ b
        → (run_from (is_digit radix) s (i + 1) ≡ i + 1 + n → value_from radix (take n s) (v * radix + digit_of x) ≡ value_from radix s (v * radix + digit_of x))
        → value_from radix (x ∷ take n s) v ≡ value_from radix (x ∷ s) v
    go true t next = rw (t, value_from) (next (let h : run_from (is_digit radix) s (i + 1) ≡ i + suc n = rw (t, run_from) at e in omega arith))
    go false t next = rw (t, value_from)

-- a number of `before` bytes and then digits: the slice up to the end of the digits, and every longer one
module _ (radix : ℕ) (test : ℕ → Bool) (same_digits : (x : ℕ) → is_digit radix x ≡ test x) (s : List ℕ) (i n : ℕ) (run : run_from (is_digit radix) s i ≡ i + n) where
  digits-many : many test (take n s) ≡ true
  digits-many = sym (many-same (is_digit radix) test same_digits (take n s)) ∙ run-many (is_digit radix) s i n run

  digits-longer : (m : ℕ) → n < m → m ≤ length s → many test (take m s) ≡ false
  digits-longer m h le = sym (many-same (is_digit radix) test same_digits (take m s)) ∙ run-longer (is_digit radix) s i m (omega arith) le

-- what a slice is after each prefix
after-hexadecimal : (d : ℕ) (t : List ℕ) → (is_integer (48 ∷ 120 ∷ d ∷ t) ≡ many is_hexadecimal (d ∷ t)) × (value_of (48 ∷ 120 ∷ d ∷ t) ≡ value_from 16 (d ∷ t) 0)
unfolding is_integer some many is_decimal within begins value_of
after-hexadecimal d t = (simp or-false, refl)

after-octal : (d : ℕ) (t : List ℕ) → (is_integer (48 ∷ 111 ∷ d ∷ t) ≡ many is_octal (d ∷ t)) × (value_of (48 ∷ 111 ∷ d ∷ t) ≡ value_from 8 (d ∷ t) 0)
unfolding is_integer some many is_decimal within begins value_of
after-octal d t = (refl, refl)

-- a number is told by the slice up to the end of its digits, whether it is too large or not
number_token-taken :
    (s : List ℕ) (end i next v : ℕ) → is_integer (take (next - i) s) ≡ true → value_of (take (next - i) s) ≡ v → NoneLonger s (next - i)
    → Taken s i (number_token end i next v)
unfolding number_token bad_token
number_token-taken s end i next v is value none =
    either-by (Taken s i) (leb v largest) (λ e. (refl, ((is, value, leb-true v largest e), none)))
    (λ e. (refl, inr (inr (next - i, is, omega (arith, leb-false v largest e, value), none))))

zero-lexeme : (t : List ℕ) → is_lexeme (48 ∷ t) ≡ is_integer (48 ∷ t)
unfolding is_letter is_decimal within
zero-lexeme t = number-lexeme 48 t refl refl

-- a number with a prefix, whose digits d, s run to `next`
module _ (letter radix : ℕ) (test : ℕ → Bool) (same_digits : (x : ℕ) → is_digit radix x ≡ test x)
    (is : (d : ℕ) (t : List ℕ) → (is_integer (48 ∷ letter ∷ d ∷ t) ≡ many test (d ∷ t)) × (value_of (48 ∷ letter ∷ d ∷ t) ≡ value_from radix (d ∷ t) 0))
    (d : ℕ) (s : List ℕ) (end i k : ℕ) (run : run_from (is_digit radix) (d ∷ s) (i + 2) ≡ i + 2 + suc k) where
  prefix_longer : (m : ℕ) → suc (suc (suc k)) < suc m → m ≤ length (letter ∷ d ∷ s) → is_integer (48 ∷ take m (letter ∷ d ∷ s)) ≡ false
  prefix_longer zero h le = absurd (omega arith)
  prefix_longer (suc zero) h le = absurd (omega arith)
  prefix_longer (suc (suc m)) h le =
      (is d (take m s)).0 ∙ digits-longer radix test same_digits (d ∷ s) (i + 2) (suc k) run (suc m) (omega arith) (omega arith)

  prefix_taken : Taken (48 ∷ letter ∷ d ∷ s) i (number_token end i (run_from (is_digit radix) (d ∷ s) (i + 2)) (value_from radix (d ∷ s) 0))
  prefix_taken =
      let slice : i + 2 + suc k - i ≡ suc (suc (suc k)) = omega arith in
      rw run
      (number_token-taken (48 ∷ letter ∷ d ∷ s) end i (i + 2 + suc k) (value_from radix (d ∷ s) 0)
      (rw slice ((is d (take k s)).0 ∙ digits-many radix test same_digits (d ∷ s) (i + 2) (suc k) run))
      (rw slice ((is d (take k s)).1 ∙ value-take radix (d ∷ s) (i + 2) (suc k) 0 run))
      (rw slice (longer-none is_integer 48 (letter ∷ d ∷ s) (suc (suc (suc k))) zero-lexeme prefix_longer)))

-- where a prefix stands, and where it does not
prefixed-is :
    (letter radix : ℕ) (s : List ℕ) → radix ≤ 16 → prefixed letter radix s ≡ true
    → (d : ℕ) × (t : List ℕ) × (s ≡ 48 ∷ letter ∷ d ∷ t) × (is_digit radix d ≡ true)
unfolding prefixed begins is_digit digit_of within
prefixed-is letter radix [] h e = absurd (false≢true e)
prefixed-is letter radix (a ∷ []) h e = absurd (false≢true (sym (and-false (eqb a 48)) ∙ and_left (eqb a 48 && false) (is_digit radix 0) e))
prefixed-is letter radix (a ∷ b ∷ []) h e = absurd (false≢true (sym (le-ltb 16 radix h) ∙ and_right (eqb a 48 && (eqb b letter && true)) (ltb 16 radix) e))
prefixed-is letter radix (a ∷ b ∷ d ∷ t) h e =
    let front : (eqb a 48 && (eqb b letter && true)) ≡ true = and_left (eqb a 48 && (eqb b letter && true)) (is_digit radix d) e in
    let zero-first : a ≡ 48 = eqb-true a 48 (and_left (eqb a 48) (eqb b letter && true) front) in
    let letter-next : b ≡ letter = eqb-true b letter (and_left (eqb b letter) true (and_right (eqb a 48) (eqb b letter && true) front)) in
    (d, t, ap (λ (z : ℕ). z ∷ b ∷ d ∷ t) zero-first ∙ ap (λ (z : ℕ). 48 ∷ z ∷ d ∷ t) letter-next, and_right (eqb a 48 && (eqb b letter && true)) (is_digit radix d) e)

no_prefix :
    (letter radix : ℕ) (test : ℕ → Bool) → ((x : ℕ) → is_digit radix x ≡ test x) → (s : List ℕ) → prefixed letter radix s ≡ false
    → (m : ℕ) → (begins (48 ∷ letter ∷ []) (take m s) && some test (drop 2 (take m s))) ≡ false
unfolding prefixed begins some
no_prefix letter radix test same_digits [] e m = rw (take-nil {A = ℕ} m)
no_prefix letter radix test same_digits (a ∷ s) e zero = refl
no_prefix letter radix test same_digits (a ∷ []) e (suc m) = rw (take-nil {A = ℕ} m, and-false (eqb a 48))
no_prefix letter radix test same_digits (a ∷ b ∷ s) e (suc zero) = rw (and-false (eqb a 48))
no_prefix letter radix test same_digits (a ∷ b ∷ []) e (suc (suc m)) = rw (take-nil {A = ℕ} m) (and-false (eqb a 48 && (eqb b letter && true)))
no_prefix letter radix test same_digits (a ∷ b ∷ d ∷ s) e (suc (suc zero)) = and-false (eqb a 48 && (eqb b letter && true))
no_prefix letter radix test same_digits (a ∷ b ∷ d ∷ s) e (suc (suc (suc m))) = go (eqb a 48 && (eqb b letter && true)) (is_digit radix d) refl refl e
  where
    go : (p q : Bool) → (eqb a 48 && (eqb b letter && true)) ≡ p → is_digit radix d ≡ q → (p && q) ≡ false → ((eqb a 48 && (eqb b letter && true)) && (test d && many test (take m s))) ≡ false
    go true true t u e = absurd (false≢true (sym e))
    go true false t u e = rw (t, sym (same_digits d) ∙ u)
    go false q t u e = rw t

-- a run of decimals has no prefix
no_letter : (letter : ℕ) → is_decimal letter ≡ false → (a : ℕ) (t : List ℕ) → many is_decimal t ≡ true → begins (48 ∷ letter ∷ []) (a ∷ t) ≡ false
unfolding begins many
no_letter letter other a [] e = and-false (eqb a 48)
no_letter letter other a (b ∷ t) e =
    let unlike : eqb b letter ≡ false = ne_eqb b letter (λ z. false≢true (sym other ∙ ap is_decimal (sym z) ∙ and_left (is_decimal b) (many is_decimal t) e)) in
    rw (unlike, and-false (eqb a 48))

-- a number without a prefix
module _ (x : ℕ) (s : List ℕ) (end i k : ℕ) (other : is_letter x ≡ false) (digit : is_decimal x ≡ true)
    (no-x : prefixed 120 16 (x ∷ s) ≡ false) (no-o : prefixed 111 8 (x ∷ s) ≡ false) (run : run_from (is_digit 10) (x ∷ s) i ≡ i + suc k) where
  decimals : many is_decimal (x ∷ take k s) ≡ true
  decimals = digits-many 10 is_decimal digit_ten (x ∷ s) i (suc k) run

  rest-decimals : many is_decimal (take k s) ≡ true
  unfolding many
  rest-decimals = and_right (is_decimal x) (many is_decimal (take k s)) decimals

  decimal-value : value_of (x ∷ take k s) ≡ value_from 10 (x ∷ take k s) 0
  unfolding value_of is_decimal within
  decimal-value = rw (no_letter 120 refl x (take k s) rest-decimals, no_letter 111 refl x (take k s) rest-decimals, value_of)

  decimal-longer : (m : ℕ) → suc k < suc m → m ≤ length s → is_integer (x ∷ take m s) ≡ false
  unfolding is_integer some many
  decimal-longer m h le =
      rw (
        digits-longer 10 is_decimal digit_ten (x ∷ s) i (suc k) run (suc m) h (omega arith),
        no_prefix 120 16 is_hexadecimal digit_sixteen (x ∷ s) no-x (suc m),
        no_prefix 111 8 is_octal digit-eight (x ∷ s) no-o (suc m),
      )

  decimal-is : is_integer (x ∷ take k s) ≡ true
  unfolding is_integer some many
  decimal-is = rw decimals

  decimal-taken : Taken (x ∷ s) i (number_token end i (run_from (is_digit 10) (x ∷ s) i) (value_from 10 (x ∷ s) 0))
  decimal-taken =
      let slice : i + suc k - i ≡ suc k = omega arith in
      rw run
      (number_token-taken (x ∷ s) end i (i + suc k) (value_from 10 (x ∷ s) 0)
      (rw slice decimal-is)
      (rw slice (decimal-value ∙ value-take 10 (x ∷ s) i (suc k) 0 run))
      (rw slice (longer-none is_integer x s (suc k) (λ t. number-lexeme x t other digit) decimal-longer)))

-- a run that begins with a byte of its kind, by the number of the other bytes
run-count : (test : ℕ → Bool) (x : ℕ) (s : List ℕ) (i : ℕ) → test x ≡ true → run_from test (x ∷ s) i ≡ i + suc (run_from test (x ∷ s) i - (i + 1))
run-count test x s i e = omega (arith, run-ahead test x s i e)

module _ (letter radix : ℕ) (test : ℕ → Bool) (same_digits : (x : ℕ) → is_digit radix x ≡ test x) (small : radix ≤ 16)
    (is : (d : ℕ) (t : List ℕ) → (is_integer (48 ∷ letter ∷ d ∷ t) ≡ many test (d ∷ t)) × (value_of (48 ∷ letter ∷ d ∷ t) ≡ value_from radix (d ∷ t) 0)) where
  prefixed-taken : (s : List ℕ) (i : ℕ) → prefixed letter radix s ≡ true → digits_of s ≡ record { radix = radix; before = 2 } → Taken s i (number_from s i)
  unfolding number_from
  prefixed-taken s i e digits =
      let p = prefixed-is letter radix s small e in
      rw (digits, p.2)
      (prefix_taken letter radix test same_digits is p.0 p.1 (i + length (48 ∷ letter ∷ p.0 ∷ p.1)) i _ (run-count (is_digit radix) p.0 p.1 (i + 2) p.3))

pub number-taken : (x : ℕ) (s : List ℕ) (i : ℕ) → is_letter x ≡ false → is_decimal x ≡ true → Taken (x ∷ s) i (number_from (x ∷ s) i)
unfolding number_from
number-taken x s i other digit = go (prefixed 120 16 (x ∷ s)) (prefixed 111 8 (x ∷ s)) refl refl
  where
    go : (a b : Bool) → prefixed 120 16 (x ∷ s) ≡ a → prefixed 111 8 (x ∷ s) ≡ b → Taken (x ∷ s) i (number_from (x ∷ s) i)
    go true b no-x no-o = prefixed-taken 120 16 is_hexadecimal digit_sixteen (omega arith) after-hexadecimal (x ∷ s) i no-x (hexadecimal (x ∷ s) no-x)
    go false true no-x no-o = prefixed-taken 111 8 is_octal digit-eight (omega arith) after-octal (x ∷ s) i no-o (octal (x ∷ s) no-x no-o)
    go false false no-x no-o =
        rw (decimal (x ∷ s) no-x no-o, add-zero i)
        (decimal-taken x s (i + length (x ∷ s)) i _ other digit no-x no-o (run-count (is_digit 10) x s i (digit_ten x ∙ digit)))
