-- Names and reserved words are the longest match. Assumes nothing.
use mathlib.Core.Bool.{true, false, ◌&&◌}
use mathlib.Core.List.{List, [], ◌∷◌}
use mathlib.Core.Path.{◌≡◌, refl, sym, ap, ◌∙◌}
use Prim.Native.Nat.{ℕ, suc, ◌+◌, ◌-◌, ◌≤◌, ◌<◌}
use native.Mathlib.Omega.{arith}
use lib.Dec.{ltb}
use lib.ListN.{get_or, take}
use lib.Seq.{length-take-le}
use borrow.Author.Tests.{ltb-true, ltb-false}
use Rattle.token.specs.Bytes.{same, run_from}
use Rattle.token.specs.Word.{is_letter, is_name_byte, reserved, word_of}
use Rattle.token.specs.Scan.{name_token, name_from}
use Rattle.token.specs.Lexeme.{many, is_ident, NoneLonger}
use Rattle.token.proofs.Bools.{either-by}
use Rattle.token.proofs.RunSteps.{run_from_lem, run-ahead}
use Rattle.token.proofs.Lexemes.{run-many, run-longer, same-eq, same_self, first_holds, first-least}
use Rattle.token.proofs.FirstByte.{name-lexeme, Taken, longer-none}
use Rattle.logic.proofs.Tests.{and_right}

pub word-is : (name : List ℕ) → word_of name < 29 → name ≡ get_or reserved (word_of name) []
unfolding word_of reserved
word-is name h = same-eq name _ (first_holds (same name) reserved 0 (word_of name) (omega arith) h)

pub no_word : (name : List ℕ) → 29 ≤ word_of name → (k : ℕ) → k < 29 → name ≡ get_or reserved k [] → ⊥
unfolding word_of reserved
no_word name h k small e = omega (arith, first-least (same name) reserved 0 k small (ap (same name) (sym e) ∙ same_self name))

module _ (x : ℕ) (s : List ℕ) (i : ℕ) (letter : is_letter x ≡ true) where
  abbrev name_end : ℕ
  name_end = run_from is_name_byte (x ∷ s) i

  letter_goes_on : is_name_byte x ≡ true
  unfolding is_name_byte
  letter_goes_on = rw letter

  name-ahead : i < name_end
  name-ahead = run-ahead is_name_byte x s i letter_goes_on

  name-many : (n : ℕ) → name_end ≡ i + suc n → is_ident (x ∷ take n s) ≡ true
  unfolding is_ident many
  name-many n e = rw letter (and_right (is_name_byte x) (many is_name_byte (take n s)) (run-many is_name_byte (x ∷ s) i (suc n) e))

  name-none : NoneLonger (x ∷ s) (name_end - i)
  unfolding is_ident many
  name-none = longer-none is_ident x s (name_end - i) (λ t. name-lexeme x t letter) (λ m h le. rw letter (short m (run-longer is_name_byte (x ∷ s) i (suc m) (omega (arith, name-ahead)) (omega arith))))
    where
      short : (m : ℕ) → (is_name_byte x && many is_name_byte (take m s)) ≡ false → many is_name_byte (take m s) ≡ false
      short m e = rw letter_goes_on at e

  name-ident : is_ident (take (name_end - i) (x ∷ s)) ≡ true
  name-ident =
      let some : name_end - i ≡ suc (name_end - i - 1) = omega (arith, name-ahead) in
      rw some (name-many (name_end - i - 1) (omega (arith, name-ahead)))

  pub name-taken : Taken (x ∷ s) i (name_from (x ∷ s) i)
  unfolding name_from name_token
  name-taken =
      either-by (Taken (x ∷ s) i) (ltb (word_of (take (name_end - i) (x ∷ s))) 29)
      (λ e. (refl, ((ltb-true _ 29 e, word-is _ (ltb-true _ 29 e)), name-none)))
      (λ e. (refl, ((name-ident, length-take-le (name_end - i) (x ∷ s) (omega (arith, (run_from_lem is_name_byte (x ∷ s) i).1)), no_word _ (ltb-false _ 29 e)), name-none)))
