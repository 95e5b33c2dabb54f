-- A reserved word is the one that has its slot: that no two share one is computed. Assumes nothing.
use mathlib.Core.Bool.{Bool, true, false, ◌&&◌, true≢false}
use mathlib.Core.List.{List, [], ◌∷◌, map}
use mathlib.Core.Path.{◌≡◌, refl, sym, ap, ◌∙◌}
use Prim.Native.Nat.{ℕ, ◌+◌, ◌-◌, ◌*◌, ◌/◌, ◌%◌, ◌≤◌, ◌<◌}
use native.Mathlib.Nat.{add-zero}
use native.Mathlib.Omega.{arith}
use lib.Dec.{T, eqb, leb, ltb, eqb→eq, leb→le}
use lib.Ieee.Fits.{and_l, and_r}
use lib.Ieee.Bits.{is_true}
use borrow.Author.Tests.{ltb-true, ltb-false}
use lib.ListN.{length, get_or, take, drop, get_or-map}
use lib.Seq.{slice, slice_empty, length-slice, get_or-drop, get_or-take}
use Rattle.token.specs.Bytes.{same, first_true, first_that, one_of}
use Rattle.token.specs.Word.{reserved, word_of}
use Rattle.token.specs.Slot.{slot_of, word_in}
use Rattle.logic.proofs.Tests.{or_left, or_right}
use Rattle.std.specs.Prelude.{Some}
use Rattle.std.specs.Bool.{then_some}
use Rattle.token.specs.Bytes.{below}
use Rattle.token.proofs.Below.{some-below, none_below}
use Rattle.token.proofs.Table.{at}
use Rattle.token.proofs.Words.{joined, Begins, entry-fits, entry-is}
use Rattle.token.proofs.Lexemes.{same-eq, same_self}
use Rattle.token.proofs.LongestName.{word-is, no_word}

-- `WORD_STARTS`
abbrev pub starts : List ℕ
starts =
    0 ∷ 2 ∷ 5 ∷ 9 ∷ 14 ∷ 20 ∷ 24 ∷ 30 ∷ 35 ∷ 38 ∷ 40 ∷ 43 ∷ 47 ∷ 51 ∷ 55 ∷ 58 ∷ 65 ∷ 69 ∷ 77 ∷ 87 ∷ 90 ∷ 99 ∷ 106 ∷ 110 ∷
    114 ∷ 120 ∷ 128 ∷ 136 ∷ 141 ∷ []

-- ---- computed: each word has the slot that holds its index, and begins where the table says
own-slot : (k : ℕ) → k < 29 → word_in (slot_of (get_or reserved k [])) ≡ k
unfolding slot_of reserved word_in first_true
own-slot k h =
    ap (λ (s : ℕ). word_in s) (sym (get_or-map slot_of reserved k []))
    ∙ eqb→eq _ k (at (λ i x. eqb (word_in x) i) (map slot_of reserved) tt k h)

-- ---- a search through a table ends at its length
first-most : (tests : List Bool) (k : ℕ) → first_true tests k ≤ k + length tests
unfolding first_true
first-most [] k = omega arith
first-most (true ∷ tests) k = omega arith
first-most (false ∷ tests) k = omega (arith, first-most tests (k + 1))

word-most : (s : List ℕ) → word_of s ≤ 29
unfolding word_of reserved
word-most s = first-most (map (same s) reserved) 0

-- ---- the word that has the slot of a name decides
-- a name that is a reserved word is the one that has its slot
word-slot : (s : List ℕ) → word_of s < 29 → word_in (slot_of s) ≡ word_of s
word-slot s h = ap (λ (n : List ℕ). word_in (slot_of n)) (word-is s h) ∙ own-slot (word_of s) h

-- what is found in the slot n of a name, k, decides
module _ (s : List ℕ) (n k : ℕ) (slot_is : n ≡ slot_of s) (found : k ≡ word_in n) where
  own : word_of s < 29 → k ≡ word_of s
  own h = found ∙ ap (λ (m : ℕ). word_in m) slot_is ∙ word-slot s h

  pub found_word_lem : k < 29 → same s (get_or reserved k []) ≡ true → k ≡ word_of s
  found_word_lem h e = go (ltb (word_of s) 29) refl
    where
      go : (b : Bool) → ltb (word_of s) 29 ≡ b → k ≡ word_of s
      go true t = own (ltb-true _ 29 t)
      go false t = absurd (no_word s (ltb-false _ 29 t) k h (same-eq s _ e))

  pub other_word : (k < 29 → same s (get_or reserved k []) ≡ false) → 29 ≡ word_of s
  other_word unlike = go (ltb (word_of s) 29) refl
    where
      go : (b : Bool) → ltb (word_of s) 29 ≡ b → 29 ≡ word_of s
      go false t = omega (arith, word-most s, ltb-false (word_of s) 29 t)
      go true t =
          let h : word_of s < 29 = ltb-true (word_of s) 29 t in
          let k-is : k ≡ word_of s = own h in
          let alike : same s (get_or reserved k []) ≡ true = ap (λ (m : ℕ). same s (get_or reserved m [])) k-is ∙ ap (same s) (sym (word-is s h)) ∙ same_self s in
          absurd (true≢false (sym alike ∙ unlike (omega (arith, h, k-is))))

  -- a name with the bytes of the word that has its slot is that word, and any other is none
  pub word-told : k < 29 → (b : Bool) → b ≡ same s (get_or reserved k []) → then_some b k ≡ below 29 (word_of s)
  word-told h true e = let is : k ≡ word_of s = found_word_lem h (sym e) in ap Some is ∙ some-below 29 (word_of s) (omega arith)
  word-told h false e = none_below 29 (word_of s) (let is : 29 ≡ word_of s = other_word (λ h. sym e) in omega arith)

pub empty-word : (t e : ℕ) (l : List ℕ) → t ≡ e → 29 ≡ word_of (slice t e l)
unfolding word_of reserved same first_true
empty-word t e l empty = rw (sym empty, slice_empty t l)

-- ---- the slot of a part of a text
part-byte : (l : List ℕ) (i e k : ℕ) → i + k < e → get_or (slice i e l) k 0 ≡ get_or l (i + k) 0
part-byte l i e k h = get_or-drop i (take e l) k 0 ∙ get_or-take e l (i + k) 0 h

pub slot_is : (l : List ℕ) (i e n a b : ℕ) → i < e → e ≤ length l → n ≡ e - i → a ≡ get_or l i 0 → b ≡ get_or l (i + n / 2) 0
    → (4 * (n % 16) + 5 * a + 2 * b) % 64 ≡ slot_of (slice i e l)
unfolding slot_of
slot_is l i e n a b in-text to n-is a-is b-is =
    let long : length (slice i e l) ≡ n = length-slice i e l to ∙ sym n-is in
    let first : get_or (slice i e l) 0 0 ≡ a = part-byte l i e 0 (omega arith) ∙ ap (λ (k : ℕ). get_or l k 0) (add-zero i) ∙ sym a-is in
    let middle : get_or (slice i e l) (n / 2) 0 ≡ b = part-byte l i e (n / 2) (omega arith) ∙ sym b-is in
    rw (long, first, middle)

-- ---- the arms of `word_in`: the slots of the words, in their order
abbrev pub slot_keys : List ℕ
slot_keys = map slot_of reserved

none_has : (key : List ℕ → ℕ) (table : List (List ℕ)) (x k : ℕ) → one_of (map key table) x ≡ false
    → first_that (λ entry. eqb x (key entry)) table k ≡ k + length table
unfolding one_of first_true
none_has key [] x k e = omega arith
none_has key (entry ∷ table) x k e =
    rw (or_left (eqb x (key entry)) (one_of (map key table) x) e)
    (none_has key table x (k + 1) (or_right (eqb x (key entry)) (one_of (map key table) x) e) ∙ omega arith)

pub no_word-in : (slot : ℕ) → one_of slot_keys slot ≡ false → word_in slot ≡ 29
unfolding word_in reserved
no_word-in slot e = none_has slot_of reserved slot 0 e

-- ---- where a word stands among the bytes of all
abbrev is_placed : ℕ → ℕ → Bool
is_placed k start = leb start 147 && same (drop start (joined reserved)) (joined (drop k reserved))

placed : (k start : ℕ) → T (is_placed k start) → Begins reserved k start
unfolding Begins joined reserved
placed k start t =
    let after = same (drop start (joined reserved)) (joined (drop k reserved)) in
    (leb→le start 147 (and_l (leb start 147) after t), same-eq _ _ (is_true after (and_r (leb start 147) after t)))

word-begins : (k : ℕ) → k < 29 → Begins reserved k (get_or starts k 0)
unfolding joined reserved same
word-begins k h = placed k (get_or starts k 0) (at is_placed starts tt k h)

-- `WORD_LENGTHS`
unfoldable pub lengths : List ℕ
lengths = map length reserved

length-is : (k : ℕ) → get_or lengths k 0 ≡ length (get_or reserved k [])
unfolding lengths
length-is k = get_or-map length reserved k []

module _ (k : ℕ) (h : k < 29) where
  pub word_fits : get_or starts k 0 + get_or lengths k 0 ≤ 147
  unfolding reserved joined
  word_fits = omega (arith, length-is k, entry-fits reserved k (get_or starts k 0) h (word-begins k h))

  word_bytes : slice (get_or starts k 0) (get_or starts k 0 + get_or lengths k 0) (joined reserved) ≡ get_or reserved k []
  unfolding reserved
  word_bytes = rw (length-is k) (entry-is reserved k (get_or starts k 0) h (word-begins k h))

  pub word-part : (start n : ℕ) → start ≡ get_or starts k 0 → n ≡ get_or lengths k 0 → slice start (start + n) (joined reserved) ≡ get_or reserved k []
  word-part start n start_is n-is = rw (start_is, n-is) word_bytes
