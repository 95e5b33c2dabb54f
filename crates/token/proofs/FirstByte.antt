-- A lexeme is of one kind by its first byte, and what is proved of each token that the reader takes. Assumes nothing.
use mathlib.Core.Bool.{Bool, true, false, false≢true, and-false, or-false}
use mathlib.Core.List.{List, [], ◌∷◌}
use mathlib.Core.Path.{◌≡◌, refl, sym, ap, ◌∙◌}
use Prim.Native.Nat.{ℕ, zero, suc, ◌-◌, ◌≤◌, ◌<◌}
use native.Mathlib.Omega.{arith}
use lib.Dec.{T, eqb, leb}
use lib.ListN.{length, take}
use borrow.Author.Tests.{ne_eqb, lt-leb}
use Rattle.token.specs.Bytes.{bytes, begins, within}
use Rattle.token.specs.Word.{is_letter}
use Rattle.token.specs.Sign.{long_signs, is_sign_byte}
use Rattle.token.specs.Fair.{place_of}
use Rattle.token.specs.Lexeme.{some, is_ident, is_decimal, is_integer, is_bits_literal, is_sign, is_lexeme, NoneLonger, Longest}
use Rattle.token.specs.declared.Scanned.{Scanned}
use Rattle.token.proofs.Bools.{within_both}
use Rattle.token.proofs.Lexemes.{none, none_first, not-one, no-entry}

pub not-true : (b : Bool) → (b ≡ true → ⊥) → b ≡ false
not-true true never = absurd (never refl)
not-true false never = refl

-- ---- what the first byte says of a lexeme
-- a letter is neither a digit nor a quote, and a digit is no quote
above : (x : ℕ) → is_letter x ≡ true → 65 ≤ x
unfolding is_letter
above x e = go (within 65 90 x) refl
  where
    go : (b : Bool) → within 65 90 x ≡ b → 65 ≤ x
    go true t = (within_both 65 90 x t).0
    go false t = let h : within 97 122 x ≡ true = rw t at e in omega (arith, (within_both 97 122 x h).0)

pub no-decimal : (x : ℕ) → 58 ≤ x → is_decimal x ≡ false
unfolding is_decimal within
no-decimal x h = rw (lt-leb x 57 (omega arith), and-false (leb 48 x))

-- no sign begins with a byte that passes a test which no sign's first byte does
abbrev SignFree : (ℕ → Bool) → Type 0
SignFree test = T (none test (bytes "@.=#+-*/%<>!{}[]():,;")) × T (none_first test long_signs)

no_sign : (test : ℕ → Bool) → SignFree test → (x : ℕ) → test x ≡ true → (s : List ℕ) → is_sign (x ∷ s) ≡ false
unfolding is_sign is_sign_byte
no_sign test free x p [] = not-one test x p (bytes "@.=#+-*/%<>!{}[]():,;") free.0
no_sign test free x p (y ∷ s) = no-entry test x p long_signs (y ∷ s) free.1

letter_free : SignFree is_letter
unfolding is_letter within long_signs
letter_free = (tt, tt)

decimal-free : SignFree is_decimal
unfolding is_decimal within long_signs
decimal-free = (tt, tt)

is_quote : ℕ → Bool
is_quote x = eqb x 39

quote_free : SignFree is_quote
unfolding is_quote long_signs
quote_free = (tt, tt)

module _ (x : ℕ) (s : List ℕ) where
  no-ident : is_letter x ≡ false → is_ident (x ∷ s) ≡ false
  unfolding is_ident
  no-ident e = rw e

  no_integer : is_decimal x ≡ false → is_integer (x ∷ s) ≡ false
  unfolding is_integer some begins is_decimal within
  no_integer e = let no_zero : eqb x 48 ≡ false = ne_eqb x 48 (λ z. false≢true (sym e ∙ ap is_decimal z)) in rw (e, no_zero)

  no_bits : eqb x 39 ≡ false → is_bits_literal (x ∷ s) ≡ false
  unfolding is_bits_literal
  no_bits e = go s
    where
      go : (t : List ℕ) → is_bits_literal (x ∷ t) ≡ false
      go [] = refl
      go (y ∷ t) = rw e

  -- so a lexeme is of one kind by its first byte
  pub name-lexeme : is_letter x ≡ true → is_lexeme (x ∷ s) ≡ is_ident (x ∷ s)
  unfolding is_lexeme
  name-lexeme e =
      rw (no_integer (no-decimal x (omega (arith, above x e))), no_bits (ne_eqb x 39 (omega (arith, above x e))), no_sign is_letter letter_free x e s) (simp or-false)

  pub number-lexeme : is_letter x ≡ false → is_decimal x ≡ true → is_lexeme (x ∷ s) ≡ is_integer (x ∷ s)
  unfolding is_lexeme is_decimal
  number-lexeme l e =
      rw (no-ident l, no_bits (ne_eqb x 39 (omega (arith, (within_both 48 57 x e).0))), no_sign is_decimal decimal-free x e s) (simp or-false)

  pub bits-lexeme : is_letter x ≡ false → is_decimal x ≡ false → eqb x 39 ≡ true → is_lexeme (x ∷ s) ≡ is_bits_literal (x ∷ s)
  unfolding is_lexeme is_quote
  bits-lexeme l d e = rw (no-ident l, no_integer d, no_sign is_quote quote_free x e s) (simp or-false)

  pub sign-lexeme : is_letter x ≡ false → is_decimal x ≡ false → eqb x 39 ≡ false → is_lexeme (x ∷ s) ≡ is_sign (x ∷ s)
  unfolding is_lexeme
  sign-lexeme l d q = rw (no-ident l, no_integer d, no_bits q)

-- ---- what is proved of each token: it stands at i, where the bytes s come, and is the longest match
abbrev pub Taken : List ℕ → ℕ → Scanned → Type 0
Taken s i r = (place_of r.token ≡ i) × Longest s (r.next - i) r.token

-- no slice of more than n bytes is of the kind that the first byte tells
pub longer-none :
    (kind : List ℕ → Bool) (x : ℕ) (s : List ℕ) (n : ℕ) → ((t : List ℕ) → is_lexeme (x ∷ t) ≡ kind (x ∷ t))
    → ((m : ℕ) → n < suc m → m ≤ length s → kind (x ∷ take m s) ≡ false) → NoneLonger (x ∷ s) n
longer-none kind x s n is none zero h le = absurd (omega arith)
longer-none kind x s n is none (suc m) h le = is (take m s) ∙ none m h (omega arith)
