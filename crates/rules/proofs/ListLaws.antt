-- Turns of the loop over the pieces of a bit list.
use Prim.Native.Nat.{ℕ, ◌+◌, ◌*◌}
use native.Mathlib.Numerals.{add-one}
use mathlib.Core.Path.{◌≡◌, refl}
use mathlib.Core.Bool.{Bool}
use mathlib.Core.List.{List, [], ◌∷◌}
use lib.ListN.{get_or}
use Rattle.rules.specs.declared.fault.Fault.{Fault}
use Rattle.std.specs.Prelude.{Option}
use Rattle.rules.specs.Fault.{no_fault, fault_if, or_else}
use Rattle.rules.specs.Words.{word_of, written}
use Rattle.rules.specs.Names.{is_nothing, index_of}
use Rattle.rules.specs.Lists.{high_in, piece_named, unknown_in, piece_words, pieces_on}

module _ (text rs list : List ℕ) where
  pub unknown-none : {f : Option Fault} → f ≡ no_fault → f ≡ unknown_in text rs list 0
  unfolding unknown_in
  unknown-none h = h

  pub unknown-more : (k : ℕ) {here next unknown : Option Fault} {found : Option ℕ} {b : Bool} {place : ℕ} → here ≡ unknown_in text rs list k
      → found ≡ piece_named text rs list k → place ≡ get_or list (5 * k) 0 → b ≡ is_nothing found → unknown ≡ fault_if b 7 place
      → next ≡ or_else here unknown → next ≡ unknown_in text rs list (k + 1)
  unfolding unknown_in
  unknown-more k h f p b u n = rw (add-one, n, u, b, p, f, h)

  pub pieces_none : (t : List ℕ) → t ≡ pieces_on text rs list t 0
  unfolding pieces_on
  pieces_none t = refl

  pub pieces_more : (t : List ℕ) (k : ℕ) {here next : List ℕ} {found : Option ℕ} {register word high low : ℕ} → here ≡ pieces_on text rs list t k
      → found ≡ piece_named text rs list k → register ≡ index_of found → word ≡ word_of register → high ≡ high_in rs list k word → low ≡ get_or list (5 * k + 4) 0
      → next ≡ written here (3 * k) (word_of register ∷ word_of high ∷ word_of low ∷ []) → next ≡ pieces_on text rs list t (k + 1)
  unfolding pieces_on piece_words
  pieces_more t k h f r w u l n = rw (add-one, n, l, u, w, r, f, h)
