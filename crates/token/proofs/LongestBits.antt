-- Bits literals are the longest match. Assumes nothing.
use mathlib.Core.Bool.{Bool, true, false, false≢true}
use mathlib.Core.List.{List, [], ◌∷◌}
use mathlib.Core.Logic.{inl}
use mathlib.Core.Path.{◌≡◌, refl, sym, ap, ◌∙◌}
use Prim.Native.Nat.{ℕ, zero, suc, ◌+◌, ◌-◌, ◌≤◌, ◌<◌}
use native.Mathlib.Omega.{arith}
use lib.Dec.{eqb, ltb}
use lib.ListN.{length, get_or, take}
use lib.Seq.{take-nil, length-take-le}
use borrow.Author.Tests.{eqb-true, eqb-false, eq-eqb, ltb-true, ltb-false}
use Rattle.token.specs.Bytes.{one_of, within, run_from}
use Rattle.token.specs.Word.{is_letter}
use Rattle.token.specs.Scan.{is_bit, bad_token, bits_token, bits_from}
use Rattle.token.specs.Lexeme.{is_decimal, closes_bits, is_bits_literal, NoneLonger, Longest}
use Rattle.token.specs.declared.Token.TheVariants.{Bits}
use Rattle.token.proofs.Bools.{either-by}
use Rattle.token.proofs.Laws.{byte_inside}
use Rattle.token.proofs.RunSteps.{run_from_lem, run-ahead}
use Rattle.token.proofs.FirstByte.{not-true, bits-lexeme, Taken, longer-none}
use Rattle.logic.proofs.Tests.{and_left, and_right}

-- one byte of a run
run_step : (test : ℕ → Bool) (x : ℕ) (s : List ℕ) (i k : ℕ) → run_from test (x ∷ s) i ≡ i + suc k → (test x ≡ true) × (run_from test s (i + 1) ≡ i + 1 + k)
unfolding run_from
run_step test x s i k run = go (test x) refl
  where
    go : (b : Bool) → test x ≡ b → (test x ≡ true) × (run_from test s (i + 1) ≡ i + 1 + k)
    go true t = let h : run_from test s (i + 1) ≡ i + suc k = rw (t, run_from) at run in (t, omega arith)
    go false t = absurd (let h : i ≡ i + suc k = rw (t, run_from) at run in omega arith)

run_none : (test : ℕ → Bool) (x : ℕ) (s : List ℕ) (i : ℕ) → run_from test (x ∷ s) i ≡ i + 0 → test x ≡ true → ⊥
run_none test x s i run e = omega (arith, run-ahead test x s i e)

quote_no-bit : (x : ℕ) → x ≡ 39 → is_bit x ≡ true → ⊥
unfolding is_bit one_of
quote_no-bit x e b = false≢true (ap is_bit (sym e) ∙ b)

-- (bit)* ' is the run of bits and the quote behind it, and nothing else
closes-is : (s : List ℕ) (i k m : ℕ) → run_from is_bit s i ≡ i + k → m ≤ length s → closes_bits (take m s) ≡ true → (m ≡ suc k) × (get_or s k 0 ≡ 39)
unfolding closes_bits
closes-is [] i k m run le e = absurd (false≢true (sym (ap closes_bits (take-nil {A = ℕ} m)) ∙ e))
closes-is (x ∷ s) i k zero run le e = absurd (false≢true e)
closes-is (x ∷ s) i zero (suc zero) run le e = (omega arith, eqb-true x 39 e)
closes-is (x ∷ s) i (suc k) (suc zero) run le e = absurd (quote_no-bit x (eqb-true x 39 e) (run_step is_bit x s i k run).0)
closes-is (x ∷ []) i k (suc (suc m)) run le e = absurd (omega arith)
closes-is (x ∷ y ∷ s) i zero (suc (suc m)) run le e = absurd (run_none is_bit x (y ∷ s) i run (and_left (is_bit x) (closes_bits (y ∷ take m s)) e))
closes-is (x ∷ y ∷ s) i (suc k) (suc (suc m)) run le e =
    let rest = closes-is (y ∷ s) (i + 1) k (suc m) (run_step is_bit x (y ∷ s) i k run).1 (omega arith) (and_right (is_bit x) (closes_bits (y ∷ take m s)) e) in
    (omega (arith, rest.0), rest.1)

closes_here : (s : List ℕ) (i k : ℕ) → run_from is_bit s i ≡ i + k → get_or s k 0 ≡ 39 → closes_bits (take (suc k) s) ≡ true
unfolding closes_bits
closes_here [] i k run e = absurd (omega (arith, e))
closes_here (x ∷ s) i zero run e = eq-eqb x 39 e
closes_here (x ∷ []) i (suc k) run e = absurd (omega (arith, e))
closes_here (x ∷ y ∷ s) i (suc k) run e =
    rw (run_step is_bit x (y ∷ s) i k run).0 (closes_here (y ∷ s) (i + 1) k (run_step is_bit x (y ∷ s) i k run).1 e)

-- so is ' (bit)+ '
literal-is :
    (s : List ℕ) (i k m : ℕ) → run_from is_bit s i ≡ i + k → m ≤ suc (length s) → is_bits_literal (take m (39 ∷ s)) ≡ true
    → (1 ≤ k) × (m ≡ suc (suc k)) × (get_or s k 0 ≡ 39)
unfolding is_bits_literal
literal-is s i k zero run le e = absurd (false≢true e)
literal-is s i k (suc zero) run le e = absurd (false≢true e)
literal-is [] i k (suc (suc m)) run le e = absurd (omega arith)
literal-is (y ∷ s) i zero (suc (suc m)) run le e = absurd (run_none is_bit y s i run (and_left (is_bit y) (closes_bits (take m s)) e))
literal-is (y ∷ s) i (suc k) (suc (suc m)) run le e =
    let rest = closes-is s (i + 1) k m (run_step is_bit y s i k run).1 (omega arith) (and_right (is_bit y) (closes_bits (take m s)) e) in
    (omega arith, omega (arith, rest.0), rest.1)

literal-here : (s : List ℕ) (i k : ℕ) → run_from is_bit s i ≡ i + suc k → get_or s (suc k) 0 ≡ 39 → is_bits_literal (take (suc (suc (suc k))) (39 ∷ s)) ≡ true
unfolding is_bits_literal
literal-here [] i k run e = absurd (omega (arith, e))
literal-here (y ∷ s) i k run e = rw (run_step is_bit y s i k run).0 (closes_here s (i + 1) k (run_step is_bit y s i k run).1 e)

module _ (s : List ℕ) (end i k : ℕ) (run : run_from is_bit s (i + 1) ≡ i + 1 + k) where
  quote_none : (n : ℕ) → ((m : ℕ) → n < m → (1 ≤ k) × (m ≡ suc (suc k)) × (get_or s k 0 ≡ 39) → ⊥) → NoneLonger (39 ∷ s) n
  unfolding is_letter is_decimal within
  quote_none n never =
      longer-none is_bits_literal 39 s n (λ t. bits-lexeme 39 t refl refl refl)
      (λ m h le. not-true (is_bits_literal (39 ∷ take m s)) (λ e. never (suc m) h (literal-is s (i + 1) k (suc m) run (omega arith) e)))

  quote_closed : 1 ≤ k → get_or s k 0 ≡ 39 → Longest (39 ∷ s) (i + 1 + k + 1 - i) (Bits i (i + 1 + k - (i + 1)))
  quote_closed more last =
      let width : i + 1 + k + 1 - i ≡ suc (suc k) = omega arith in
      let bits : i + 1 + k - (i + 1) ≡ k = omega arith in
      let back : suc (k - 1) ≡ k = omega arith in
      let inside : k < length s = byte_inside s k 38 last in
      let literal : is_bits_literal (take (suc (suc k)) (39 ∷ s)) ≡ true =
      ap (λ (n : ℕ). is_bits_literal (take (suc (suc n)) (39 ∷ s))) (sym back)
      ∙ literal-here s (i + 1) (k - 1) (omega (arith, run)) (ap (λ (n : ℕ). get_or s n 0) back ∙ last) in
      rw (width, bits)
      ((literal, length-take-le (suc (suc k)) (39 ∷ s) (omega (arith, inside)) ∙ omega arith), quote_none (suc (suc k)) (λ m h p. omega (arith, p.1)))

  quote_taken : Taken (39 ∷ s) i (bits_token end i (i + 1 + k) (get_or s k 0))
  unfolding bits_token bad_token
  quote_taken =
      either-by (Taken (39 ∷ s) i) (ltb (i + 1) (i + 1 + k))
      (λ some. either-by (Taken (39 ∷ s) i) (eqb (get_or s k 0) 39)
      (λ closed. (refl, quote_closed (omega (arith, ltb-true (i + 1) (i + 1 + k) some)) (eqb-true (get_or s k 0) 39 closed)))
      (λ other. (refl, inl (quote_none 0 (λ m h p. eqb-false (get_or s k 0) 39 other p.2)))))
      (λ empty. (refl, inl (quote_none 0 (λ m h p. omega (arith, p.0, ltb-false (i + 1) (i + 1 + k) empty)))))

pub bits-taken : (x : ℕ) (s : List ℕ) (i : ℕ) → eqb x 39 ≡ true → Taken (x ∷ s) i (bits_from (x ∷ s) i)
unfolding bits_from
bits-taken x s i quote =
    let k : ℕ = run_from is_bit s (i + 1) - (i + 1) in
    let run : run_from is_bit s (i + 1) ≡ i + 1 + k = omega (arith, (run_from_lem is_bit s (i + 1)).0) in
    let width : i + 1 + k - i ≡ suc k = omega arith in
    rw (eqb-true x 39 quote, run, width) (quote_taken s (i + length (39 ∷ s)) i k run)
