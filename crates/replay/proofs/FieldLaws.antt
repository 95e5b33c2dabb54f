-- The words behind the first one of a line, as the code takes them one by one. Assumes nothing.
use mathlib.Core.Bool.{true, false, cond, false≢true}
use mathlib.Core.List.{List, [], ◌∷◌}
use mathlib.Core.Path.{◌≡◌, refl, sym, ap, ◌∙◌}
use Prim.Native.Nat.{ℕ, zero, suc, ◌+◌, ◌≤◌, ◌<◌, ◌^◌}
use native.Mathlib.Omega.{arith}
use lib.Dec.{eqb, ltb}
use lib.ListN.{length}
use borrow.Author.Tests.{lt-ltb, le-ltb, ne_eqb}
use Rattle.token.specs.Bytes.{begins}
use Rattle.script.specs.Words.{word_of, rest_of, ahead, words_of}
use Rattle.script.specs.Numbers.{figures, number_of}
use Rattle.script.proofs.WordLaws.{words-first, rest-shorter}
use Rattle.std.specs.Prelude.{Some, None, Ok, Err, not, ◌&&◌}
use Rattle.std.specs.Prelude.{Result, OkIff}
use Rattle.std.specs.Result.{result_ok}
use Rattle.bits.specs.Widths.{widest}
use Rattle.replay.specs.Fields.{is_none, only_word, below_of, carried_of, count_from, lent_number, stored, laid}

pub no_number : number_of [] ≡ None
unfolding number_of figures begins
no_number = refl

-- a word that is none has nothing behind it
ahead_none : (word : List ℕ) (more : List (List ℕ)) → eqb (length word) 0 ≡ is_none (ahead word more)
unfolding ahead is_none
ahead_none [] more = refl
ahead_none (x ∷ word) more = ne_eqb (length (x ∷ word)) 0 (λ e. omega arith)

-- a word with nothing behind it is the only one, and one with more behind it is not
alone : (word : List ℕ) (more : List (List ℕ)) → (not (eqb (length word) 0) && is_none more) ≡ true → Some word ≡ only_word (ahead word more)
unfolding ahead is_none only_word
alone [] more h = absurd (false≢true h)
alone (x ∷ word) [] h = refl
alone (x ∷ word) (next ∷ more) h = absurd (false≢true (rw (ne_eqb (length (x ∷ word)) 0 (λ e. omega arith)) at h))

not-alone : (word : List ℕ) (more : List (List ℕ)) → (not (eqb (length word) 0) && is_none more) ≡ false → None ≡ only_word (ahead word more)
unfolding ahead is_none only_word
not-alone [] more h = refl
not-alone (x ∷ word) [] h = absurd (false≢true (sym (rw (ne_eqb (length (x ∷ word)) 0 (λ e. omega arith)) at h)))
not-alone (x ∷ word) (next ∷ more) h = refl

-- a line, its first word and what follows it, as the code cuts them out
module _ (line first : List ℕ) (is-first : first ≡ word_of line) where
  pub split : (tail : List ℕ) → tail ≡ rest_of line → words_of line ≡ ahead first (words_of tail)
  split tail is-rest = words-first line ∙ rw (is-first, is-rest)

  pub bare-so : eqb (length first) 0 ≡ is_none (words_of line)
  bare-so = ahead_none first (words_of (rest_of line)) ∙ ap is_none (sym (split (rest_of line) refl))

-- the only word of a line
module _ (line first : List ℕ) (is-first : first ≡ word_of line) (tail : List ℕ) (is-rest : tail ≡ rest_of line) where
  pub only_so : (not (eqb (length first) 0) && is_none (words_of tail)) ≡ true → Some first ≡ only_word (words_of line)
  only_so h = alone first (words_of tail) h ∙ ap only_word (sym (split line first is-first tail is-rest))

  pub only-not : (not (eqb (length first) 0) && is_none (words_of tail)) ≡ false → None ≡ only_word (words_of line)
  only-not h = not-alone first (words_of tail) h ∙ ap only_word (sym (split line first is-first tail is-rest))

-- the number for a register that a word is, tried as one of 32 bits
pub carried-none : (word : List ℕ) → None ≡ number_of word → None ≡ carried_of word
unfolding below_of
carried-none word none = rw (sym none, below_of)

pub carried-some :
    {E : Type 0} (word : List ℕ) (n : ℕ) (read : Result ℕ E) → Some n ≡ number_of word
    → OkIff read (n < 2 ^ widest) n → result_ok read ≡ carried_of word
unfolding below_of
carried-some {E} word n read some fits = rw (sym some, below_of) (go read fits)
  where
    go : (tried : Result ℕ E) → OkIff tried (n < 2 ^ widest) n → result_ok tried ≡ cond (ltb n (2 ^ widest)) (Some n) None
    go (Ok x) h = rw (lt-ltb _ _ h.0) (ap Some h.1)
    go (Err e) h = rw (le-ltb n (2 ^ widest) (omega (arith, h)))

-- ── the numbers of an opening, word by word ──

module _ (line : List ℕ) where
  pub count-end : (n : ℕ) → is_none (words_of line) ≡ true → Some n ≡ count_from (words_of line) n
  unfolding count_from is_none
  count-end n h = go (words_of line) h
    where
      go : (words : List (List ℕ)) → is_none words ≡ true → Some n ≡ count_from words n
      go [] e = refl
      go (word ∷ more) e = absurd (false≢true e)

  pub laid_end : (at : ℕ) (numbers : List ℕ) → is_none (words_of line) ≡ true → numbers ≡ laid (words_of line) at numbers
  unfolding laid is_none
  laid_end at numbers h = go (words_of line) h
    where
      go : (words : List (List ℕ)) → is_none words ≡ true → numbers ≡ laid words at numbers
      go [] e = refl
      go (word ∷ more) e = absurd (false≢true e)

  module _ (some : is_none (words_of line) ≡ false) (first : List ℕ) (is-first : first ≡ word_of line) where
    words_more : (tail : List ℕ) → tail ≡ rest_of line → words_of line ≡ first ∷ words_of tail
    unfolding ahead is_none
    words_more tail is-rest = whole ∙ go first (sym (ap is_none whole) ∙ some)
      where
        whole : words_of line ≡ ahead first (words_of tail)
        whole = split line first is-first tail is-rest

        go : (word : List ℕ) → is_none (ahead word (words_of tail)) ≡ false → ahead word (words_of tail) ≡ word ∷ words_of tail
        go [] h = absurd (false≢true (sym h))
        go (x ∷ word) h = refl

    pub count-stops : (n : ℕ) → None ≡ carried_of first → None ≡ count_from (words_of line) n
    unfolding count_from
    count-stops n none = rw (words_more (rest_of line) refl, count_from, sym none)

    module _ (tail : List ℕ) (is-rest : tail ≡ rest_of line) where
      pub count-on : (n b : ℕ) → Some b ≡ carried_of first → count_from (words_of line) n ≡ count_from (words_of tail) (n + 1)
      unfolding count_from
      count-on n b a_byte = rw (words_more tail is-rest, count_from, sym a_byte)

      pub laid_on :
          (at : ℕ) (numbers : List ℕ) (b : ℕ) (after : List ℕ) → b ≡ lent_number first → after ≡ stored numbers at b
          → laid (words_of line) at numbers ≡ laid (words_of tail) (at + 1) after
      unfolding laid
      laid_on at numbers b after is_byte_lem is-after = rw (words_more tail is-rest, laid, is-after, is_byte_lem)

      pub tail-shorter : length tail < length line
      unfolding ahead is_none
      tail-shorter = rw is-rest (rest-shorter line (rw is-first at (go first (sym (ap is_none whole) ∙ some))))
        where
          whole : words_of line ≡ ahead first (words_of tail)
          whole = split line first is-first tail is-rest

          go : (word : List ℕ) → is_none (ahead word (words_of tail)) ≡ false → 0 < length word
          go [] h = absurd (false≢true (sym h))
          go (x ∷ word) h = omega arith

-- nothing is stored past the end
pub stored_past : (bytes : List ℕ) (at b : ℕ) → length bytes ≤ at → bytes ≡ stored bytes at b
stored_past [] at b h = refl
stored_past (x ∷ bytes) zero b h = absurd (omega arith)
stored_past (x ∷ bytes) (suc at) b h = ap (λ (rest : List ℕ). x ∷ rest) (stored_past bytes at b (omega arith))

-- and past the end nothing is laid
pub laid_past : (words : List (List ℕ)) (at : ℕ) (numbers : List ℕ) → length numbers ≤ at → numbers ≡ laid words at numbers
unfolding laid
laid_past [] at numbers h = refl
laid_past (word ∷ more) at numbers h =
    laid_past more (at + 1) numbers (omega arith) ∙ ap (laid more (at + 1)) (stored_past numbers at (lent_number word) h)
