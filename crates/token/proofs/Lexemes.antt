-- Laws of slices: what a run, a table's entry and the first byte say of them. Assumes nothing.
use mathlib.Core.Bool.{Bool, true, false, ◌&&◌, not, false≢true}
use mathlib.Core.List.{List, [], ◌∷◌, map}
use mathlib.Core.Path.{◌≡◌, refl, sym, ap, ◌∙◌}
use Prim.Native.Nat.{ℕ, zero, suc, ◌+◌, ◌≤◌, ◌<◌}
use native.Mathlib.Omega.{arith}
use lib.Dec.{T, eqb}
use lib.ListN.{length, get_or, take}
use lib.Seq.{take-nil}
use borrow.Author.Tests.{eqb-true, eq-eqb, ne_eqb}
use Rattle.token.specs.Bytes.{same, begins, one_of, first_true, first_that, run_from}
use Rattle.token.specs.Lexeme.{many, entry_of}
use Rattle.token.proofs.Table.{both, both_left, both_right}
use Rattle.token.proofs.Signs.{first-after}
use Rattle.token.proofs.RunSteps.{run_from_lem}
use Rattle.logic.proofs.Tests.{and_left, and_right}

-- ---- runs
-- every byte of a run passes the test, and no longer slice is all of such bytes
pub run-many : (test : ℕ → Bool) (s : List ℕ) (i n : ℕ) → run_from test s i ≡ i + n → many test (take n s) ≡ true
unfolding run_from many
run-many test [] i n e = rw (take-nil {A = ℕ} n)
run-many test (x ∷ s) i zero e = refl
run-many test (x ∷ s) i (suc n) e = go (test x) refl (λ h. run-many test s (i + 1) n h)
  where
    go : (b : Bool) → test x ≡ b → (run_from test s (i + 1) ≡ i + 1 + n → many test (take n s) ≡ true) → (test x && many test (take n s)) ≡ true
    go true t next = rw t (next (let h : run_from test s (i + 1) ≡ i + suc n = rw (t, run_from) at e in omega arith))
    go false t next = absurd (let h : i ≡ i + suc n = rw (t, run_from) at e in omega arith)

pub run-longer : (test : ℕ → Bool) (s : List ℕ) (i m : ℕ) → run_from test s i < i + m → m ≤ length s → many test (take m s) ≡ false
unfolding run_from many
run-longer test [] i m h le = absurd (omega arith)
run-longer test (x ∷ s) i zero h le = absurd (omega (arith, (run_from_lem test (x ∷ s) i).0))
run-longer test (x ∷ s) i (suc m) h le = go (test x) refl (λ k. run-longer test s (i + 1) m k (omega arith))
  where
    go : (b : Bool) → test x ≡ b → (run_from test s (i + 1) < i + 1 + m → many test (take m s) ≡ false) → (test x && many test (take m s)) ≡ false
    go true t next = rw t (next (let k : run_from test s (i + 1) < i + suc m = rw (t, run_from) at h in omega arith))
    go false t next = rw t

-- one test for another that says the same
pub many-same : (f g : ℕ → Bool) → ((x : ℕ) → f x ≡ g x) → (s : List ℕ) → many f s ≡ many g s
unfolding many
many-same f g e [] = refl
many-same f g e (x ∷ s) = rw (e x, many-same f g e s)

-- ---- lists that are the same
pub same-eq : (s t : List ℕ) → same s t ≡ true → s ≡ t
unfolding same
same-eq [] [] e = refl
same-eq [] (y ∷ t) e = absurd (false≢true e)
same-eq (x ∷ s) [] e = absurd (false≢true e)
same-eq (x ∷ s) (y ∷ t) e =
    ap (λ (z : ℕ). z ∷ s) (eqb-true x y (and_left (eqb x y) (same s t) e)) ∙ ap (λ (r : List ℕ). y ∷ r) (same-eq s t (and_right (eqb x y) (same s t) e))

pub same_self : (s : List ℕ) → same s s ≡ true
unfolding same
same_self [] = refl
same_self (x ∷ s) = rw (eq-eqb x x refl, same_self s)

pub begins-take : (p s : List ℕ) → begins p s ≡ true → (take (length p) s ≡ p) × (length p ≤ length s)
unfolding begins
begins-take [] s e = (refl, omega arith)
begins-take (a ∷ p) [] e = absurd (false≢true e)
begins-take (a ∷ p) (x ∷ s) e =
    let rest = begins-take p s (and_right (eqb x a) (begins p s) e) in
    (ap (λ (z : ℕ). z ∷ take (length p) s) (eqb-true x a (and_left (eqb x a) (begins p s) e)) ∙ ap (λ (r : List ℕ). a ∷ r) rest.0, omega (arith, rest.1))

pub take_begins : (m : ℕ) (s : List ℕ) → begins (take m s) s ≡ true
unfolding begins
take_begins zero s = refl
take_begins (suc m) [] = refl
take_begins (suc m) (x ∷ s) = rw (eq-eqb x x refl, take_begins m s)

-- ---- entries of a table
module _ (test : List ℕ → Bool) where
  -- the test holds at the entry that a search finds, and at none before it
  pub first_holds : (table : List (List ℕ)) (k j : ℕ) → first_that test table k ≡ k + j → j < length table → test (get_or table j []) ≡ true
  unfolding first_true
  first_holds [] k j e h = absurd (omega arith)
  first_holds (p ∷ table) k zero e h = go (test p) refl
    where
      go : (b : Bool) → test p ≡ b → test p ≡ true
      go true t = t
      go false t = absurd (let h : first_that test table (k + 1) ≡ k + 0 = rw t at e in omega (arith, first-after (map test table) (k + 1)))
  first_holds (p ∷ table) k (suc j) e h = go (test p) refl (first_holds table (k + 1) j)
    where
      go : (b : Bool) → test p ≡ b → (first_that test table (k + 1) ≡ k + 1 + j → j < length table → test (get_or table j []) ≡ true) → test (get_or table j []) ≡ true
      go true t next = absurd (let z : k ≡ k + suc j = rw t at e in omega arith)
      go false t next = next (let z : first_that test table (k + 1) ≡ k + suc j = rw t at e in omega arith) (omega arith)

  pub first-least : (table : List (List ℕ)) (k j : ℕ) → j < length table → test (get_or table j []) ≡ true → first_that test table k ≤ k + j
  unfolding first_true
  first-least [] k j h t = absurd (omega arith)
  first-least (p ∷ table) k zero h t = rw t (omega arith)
  first-least (p ∷ table) k (suc j) h t = go (test p) refl (first-least table (k + 1) j (omega arith) t)
    where
      go : (b : Bool) → test p ≡ b → first_that test table (k + 1) ≤ k + 1 + j → first_that test (p ∷ table) k ≤ k + suc j
      go true e h = rw e (omega arith)
      go false e h = rw e (omega arith)

pub entry-is : (table : List (List ℕ)) (s : List ℕ) → entry_of table s ≡ true → (j : ℕ) × (j < length table) × (s ≡ get_or table j [])
unfolding entry_of
entry-is [] s e = absurd (false≢true e)
entry-is (p ∷ table) s e = go (same s p) refl (entry-is table s)
  where
    go : (b : Bool) → same s p ≡ b → (entry_of table s ≡ true → (j : ℕ) × (j < length table) × (s ≡ get_or table j [])) → (j : ℕ) × (j < suc (length table)) × (s ≡ get_or (p ∷ table) j [])
    go true t next = (0, omega arith, same-eq s p t)
    go false t next =
        let later = next (let h : entry_of table s ≡ true = rw t at e in h) in
        (suc later.0, omega (arith, later.1), later.2)

-- ---- bytes that begin no entry
-- a test that antt computes: none of the bytes passes
abbrev pub none : (ℕ → Bool) → List ℕ → Bool
none test [] = true
none test (a ∷ p) = both (not (test a)) (none test p)

-- the same of the first byte of each entry
abbrev pub none_first : (ℕ → Bool) → List (List ℕ) → Bool
none_first test [] = true
none_first test ([] ∷ table) = none_first test table
none_first test ((a ∷ p) ∷ table) = both (not (test a)) (none_first test table)

module _ (test : ℕ → Bool) (x : ℕ) (passes : test x ≡ true) where
  unlike : (a : ℕ) → T (not (test a)) → eqb x a ≡ false
  unlike a t = ne_eqb x a (λ e. fails (test a) t (ap test (sym e) ∙ passes))
    where
      fails : (b : Bool) → T (not b) → b ≡ true → ⊥
      fails true t e = t
      fails false t e = false≢true e

  pub not-one : (p : List ℕ) → T (none test p) → one_of p x ≡ false
  unfolding one_of
  not-one [] t = refl
  not-one (a ∷ p) t = rw (unlike a (both_left (not (test a)) (none test p) t)) (not-one p (both_right (not (test a)) (none test p) t))

  pub no-entry : (table : List (List ℕ)) (s : List ℕ) → T (none_first test table) → entry_of table (x ∷ s) ≡ false
  unfolding entry_of same
  no-entry [] s t = refl
  no-entry ([] ∷ table) s t = no-entry table s t
  no-entry ((a ∷ p) ∷ table) s t =
      rw (unlike a (both_left (not (test a)) (none_first test table) t)) (no-entry table s (both_right (not (test a)) (none_first test table) t))
