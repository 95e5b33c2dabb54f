-- A test over the first n numbers by a chain, `all`, `any` or `find` of a range, says what `every`, `some` and
-- `first_of` say.
use Prim.Native.Nat.{ℕ, zero, suc, ◌+◌}
use native.Mathlib.Omega.{arith}
use mathlib.Core.Path.{◌≡◌, refl, sym, ap, ap₂, ◌∙◌}
use mathlib.Core.Bool.{Bool, true, false, ◌&&◌, ◌||◌, cond, and-true, or-false}
use mathlib.Core.List.{List, [], ◌∷◌, ◌++◌}
use denote.Param.Members.{Mut}
use denote.Ref.{Bor}
use lib.Dec.{ltb}
use borrow.Author.Tests.{le-ltb, lt-ltb, ltb-false, ltb-true}
use Rattle.std.specs.Bool.{⊤, then_some}
use Rattle.std.specs.Fn.{Called, CalledAt}
use Rattle.std.specs.Iterator.{YieldsThen}
use Rattle.std.specs.declared.ops.Range.{Range}
use Rattle.std.specs.Option.{option_map, option_or}
use Rattle.std.specs.Prelude.{Option, None, Some, MatchOption, unwrap_or}
use Rattle.std.specs.List.{FoldsTo, find, list_all, list_any, range_with_len}
use Rattle.std.proofs.iter.Yields.{nat_range_steps}
use Rattle.std.proofs.lemmas.Iterator.{YieldsList-from_range}
use Rattle.std.proofs.lemmas.Iterator.Search.{all_from_yields_List, any_from_yields_List, find_from_yields_List}
use Rattle.std.proofs.lemmas.List.Folds.{find-append, list_all-append, list_any-append}
use Rattle.tables.specs.Every.{every, first_of, some}
use Rattle.tables.proofs.Laws.{first-le}

range-more : (a n : ℕ) → range_with_len a (suc n) ≡ range_with_len a n ++ ((a + n) ∷ [])
range-more a zero = let e : a ≡ a + 0 = omega arith in ap (λ (x : ℕ). x ∷ []) e
range-more a (suc n) =
    let e : a + 1 + n ≡ a + suc n = omega arith in
    ap (λ (s : List ℕ). a ∷ s) (range-more (a + 1) n ∙ ap (λ (x : ℕ). range_with_len (a + 1) n ++ (x ∷ [])) e)

-- what is gathered along a range, number by number, is what a recursion on its length gathers
gathered-along : (f : List ℕ → Bool) (g : ℕ → Bool) (join : Bool → ℕ → Bool) → f [] ≡ g 0
    → ((xs : List ℕ) (x : ℕ) → f (xs ++ (x ∷ [])) ≡ join (f xs) x) → ((n : ℕ) → g (suc n) ≡ join (g n) n) → (n : ℕ) → f (range_with_len 0 n) ≡ g n
gathered-along f g join start along more zero = start
gathered-along f g join start along more (suc n) =
    let e : 0 + n ≡ n = omega arith in
    ap f (range-more 0 n) ∙ along (range_with_len 0 n) (0 + n) ∙ ap₂ join (gathered-along f g join start along more n) e ∙ sym (more n)

every-range : (p : ℕ → Bool) (n : ℕ) → list_all p (range_with_len 0 n) ≡ every n p
unfolding every
every-range p = gathered-along (list_all p) (λ n. every n p) (λ ok x. ok && p x) refl (λ xs x. list_all-append p xs (x ∷ []) ∙ rw and-true) (λ n. refl)

some-range : (p : ℕ → Bool) (n : ℕ) → list_any p (range_with_len 0 n) ≡ some n p
unfolding some
some-range p = gathered-along (list_any p) (λ n. some n p) (λ ok x. ok || p x) refl (λ xs x. list_any-append p xs (x ∷ []) ∙ rw or-false) (λ n. refl)

pub find-range : (p : ℕ → Bool) (n : ℕ) → find p (range_with_len 0 n) ≡ then_some (ltb (first_of n p) n) (first_of n p)
unfolding first_of
find-range p zero = refl
find-range p (suc n) =
    let e : 0 + n ≡ n = omega arith in
    ap (find p) (range-more 0 n) ∙ find-append p (range_with_len 0 n) ((0 + n) ∷ []) ∙ rw (find-range p n, e) (go (ltb (first_of n p) n) refl (p n))
  where
    go : (a : Bool) → ltb (first_of n p) n ≡ a → (b : Bool) → option_or (then_some a (first_of n p)) (cond b (Some n) None)
        ≡ then_some (ltb (cond a (first_of n p) (cond b n (suc n))) (suc n)) (cond a (first_of n p) (cond b n (suc n)))
    go true h b = let l = ltb-true (first_of n p) n h in rw (lt-ltb (first_of n p) (suc n) (omega arith))
    go false h true = rw (lt-ltb n (suc n) (omega arith))
    go false h false = rw (le-ltb (suc n) (suc n) (omega arith))

module _ {F : Type 0} {g : Mut F (Bor ℕ × Unit {0}) Bool} (p : ℕ → Bool) {n m : ℕ} (u : Range ℕ) (f : F) (r : Option ℕ) where
  -- the first that passes, if one does
  pub found-in-range : n ≡ m → (xs : List ℕ) × (j : F) × YieldsThen nat_range_steps (record { start = 0; end = n }) xs r u
      × FoldsTo (λ k x q. CalledAt g k x false q) f xs j × MatchOption r ⊤ (λ x. (h : F) × CalledAt g j x true h)
      → ((x : ℕ) (b : Bool) (q : F) → CalledAt g f x b q → (q ≡ f) × (b ≡ p x)) → r ≡ then_some (ltb (first_of m p) m) (first_of m p)
  found-in-range e ran test =
      same r ∙ find_from_yields_List p u f r ran (YieldsList-from_range 0 n m refl (omega arith)) test ∙ find-range p m
    where
      same : (o : Option ℕ) → o ≡ option_map (λ (x : ℕ). x) o
      same None = refl
      same (Some x) = refl

  -- .. or n where none does
  pub find-in-range : n ≡ m → (xs : List ℕ) × (j : F) × YieldsThen nat_range_steps (record { start = 0; end = n }) xs r u
      × FoldsTo (λ k x q. CalledAt g k x false q) f xs j × MatchOption r ⊤ (λ x. (h : F) × CalledAt g j x true h)
      → ((x : ℕ) (b : Bool) (q : F) → CalledAt g f x b q → (q ≡ f) × (b ≡ p x)) → unwrap_or r m ≡ first_of m p
  find-in-range e ran test = ap (λ (o : Option ℕ). unwrap_or o m) (found-in-range e ran test) ∙ go (ltb (first_of m p) m) refl
    where
      go : (a : Bool) → ltb (first_of m p) m ≡ a → unwrap_or (then_some a (first_of m p)) m ≡ first_of m p
      go true h = refl
      go false h = omega (arith, first-le m p, ltb-false (first_of m p) m h)

module _ {F : Type 0} {g : Mut F (ℕ × Unit {0}) Bool} (p : ℕ → Bool) {n m : ℕ} (u : Range ℕ) (f : F) (r : Bool) where
  pub all-range : n ≡ m → (xs : List ℕ) × (o : Option ℕ) × (j : F) × YieldsThen nat_range_steps (record { start = 0; end = n }) xs o u × FoldsTo (λ k x q. Called g k (x, tt) true q) f xs j
      × MatchOption o (r ≡ true) (λ x. (r ≡ false) × ((h : F) × Called g j (x, tt) false h))
      → ((x : ℕ) (b : Bool) (q : F) → Called g f (x, tt) b q → (q ≡ f) × (b ≡ p x)) → r ≡ every m p
  all-range e ran test =
      all_from_yields_List p u f r ran (YieldsList-from_range 0 n m refl (omega arith)) test ∙ every-range p m

  pub any-range : n ≡ m → (xs : List ℕ) × (o : Option ℕ) × (j : F) × YieldsThen nat_range_steps (record { start = 0; end = n }) xs o u × FoldsTo (λ k x q. Called g k (x, tt) false q) f xs j
      × MatchOption o (r ≡ false) (λ x. (r ≡ true) × ((h : F) × Called g j (x, tt) true h))
      → ((x : ℕ) (b : Bool) (q : F) → Called g f (x, tt) b q → (q ≡ f) × (b ≡ p x)) → r ≡ some m p
  any-range e ran test =
      any_from_yields_List p u f r ran (YieldsList-from_range 0 n m refl (omega arith)) test ∙ some-range p m
