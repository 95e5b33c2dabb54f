-- Signs are the longest match. Assumes nothing.
use mathlib.Core.Bool.{Bool, true, false, false≢true}
use mathlib.Core.List.{List, [], ◌∷◌, map}
use mathlib.Core.Logic.{inl, inr, ⊎_elim}
use mathlib.Core.Path.{◌≡◌, refl, sym, ap, ◌∙◌}
use Prim.Native.Nat.{ℕ, zero, suc, ◌+◌, ◌-◌, ◌≤◌, ◌<◌}
use native.Mathlib.Omega.{arith}
use lib.Dec.{T, eqb, ltb}
use lib.ListN.{length, get_or, take, get_or-map}
use lib.Seq.{length-take-le}
use borrow.Author.Tests.{eqb-true, ne_eqb, ltb-true, ltb-false, lt-ltb, le-ltb}
use Rattle.token.specs.Bytes.{bytes, same, begins, one_of}
use Rattle.token.specs.Sign.{long_signs, is_sign_byte, long_sign, sign_number, longest_sign, sign_width}
use Rattle.token.specs.Scan.{bad_token, sign_token}
use Rattle.token.specs.Lexeme.{some, entry_of, is_sign, is_lexeme, sign_bytes, Lexeme, NoneLonger}
use Rattle.token.specs.declared.Token.TheVariants.{Sign}
use Rattle.token.proofs.Bools.{either-by, le-or-lt, none_above}
use Rattle.token.proofs.Signs.{sign-some, byte_width}
use Rattle.token.proofs.Table.{both, both_left, both_right, at}
use Rattle.token.proofs.Lexemes.{begins-take, take_begins, first_holds, first-least, entry-is, none}
use Rattle.token.proofs.FirstByte.{not-true, Taken, longer-none}

-- each sign of more than one byte has its width, and is a sign: a test that antt computes
long-right : ℕ → ℕ → Bool
long-right k n = both (eqb n (sign_width (128 + k))) (is_sign (get_or long_signs k []))

so : (b : Bool) → T b → b ≡ true
so true t = refl
so false t = absurd t

module _ (j : ℕ) (h : j < 9) where
  rights : T (long-right j (get_or (map length long_signs) j 0))
  unfolding long-right long_signs is_sign entry_of same sign_width
  rights = at long-right (map length long_signs) tt j h

  long-width : length (get_or long_signs j []) ≡ sign_width (128 + j)
  unfolding long-right
  long-width = sym (get_or-map length long_signs j []) ∙ eqb-true _ _ (so _ (both_left (eqb (get_or (map length long_signs) j 0) (sign_width (128 + j))) (is_sign (get_or long_signs j [])) rights))

  long_sign_lem : is_sign (get_or long_signs j []) ≡ true
  unfolding long-right
  long_sign_lem = so _ (both_right (eqb (get_or (map length long_signs) j 0) (sign_width (128 + j))) (is_sign (get_or long_signs j [])) rights)

-- the longest stands first in the list, and all others have two bytes
two-wide : (j : ℕ) → sign_width (128 + suc j) ≡ 2
unfolding sign_width
two-wide j = rw (ne_eqb (128 + suc j) 128 (omega arith), lt-ltb 128 (128 + suc j) (omega arith), sign_width)

first-wide : sign_width 128 ≡ 3
unfolding sign_width
first-wide = refl

narrower : (j k : ℕ) → k ≤ j → sign_width (128 + j) ≤ sign_width (128 + k)
narrower zero zero h = omega arith
narrower zero (suc k) h = absurd (omega arith)
narrower (suc j) zero h = omega (arith, two-wide j, first-wide)
narrower (suc j) (suc k) h = omega (arith, two-wide j, two-wide k)

-- a slice that is a sign of more than one byte is no longer than the one that the search finds
sign-entry :
    (x : ℕ) (s : List ℕ) (m : ℕ) → 1 ≤ m → m ≤ length s → is_sign (x ∷ take m s) ≡ true
    → (long_sign (x ∷ s) < 9) × (suc m ≤ sign_width (128 + long_sign (x ∷ s)))
unfolding is_sign long_sign long_signs
sign-entry x s zero some le e = absurd (omega arith)
sign-entry x [] (suc m) some le e = absurd (omega arith)
sign-entry x (y ∷ s) (suc m) some le e =
    let entry = entry-is long_signs (x ∷ y ∷ take m s) e in
    let here : begins (get_or long_signs entry.0 []) (x ∷ y ∷ s) ≡ true = rw (← entry.2) (take_begins (suc (suc m)) (x ∷ y ∷ s)) in
    let least = first-least (λ p. begins p (x ∷ y ∷ s)) long_signs 0 entry.0 entry.1 here in
    let width : suc (suc m) ≡ sign_width (128 + entry.0) = sym (length-take-le (suc (suc m)) (x ∷ y ∷ s) (omega arith)) ∙ ap length entry.2 ∙ long-width entry.0 entry.1 in
    (omega (arith, least, entry.1), omega (arith, width, narrower entry.0 (long_sign (x ∷ y ∷ s)) (omega (arith, least))))

-- what the search finds stands at the front of the bytes
found-is : (s : List ℕ) → long_sign s < 9 → take (sign_width (128 + long_sign s)) s ≡ get_or long_signs (long_sign s) []
unfolding long_sign long_signs
found-is s h =
    ap (λ (n : ℕ). take n s) (sym (long-width (long_sign s) h))
    ∙ (begins-take (get_or long_signs (long_sign s) []) s (first_holds (λ p. begins p s) long_signs 0 (long_sign s) (omega arith) h)).0

-- a sign byte is below 128 and not 0
byte_small : (x : ℕ) → is_sign_byte x ≡ true → x < 128
unfolding is_sign_byte
byte_small x e = ⊎_elim (λ above. absurd (false≢true (sym (none_above (bytes "@.=#+-*/%<>!{}[]():,;") 128 tt x above) ∙ e))) (λ below. below) (le-or-lt 128 x)

byte-some : (x : ℕ) → is_sign_byte x ≡ true → x ≡ 0 → ⊥
unfolding is_sign_byte one_of
byte-some x e z = false≢true (ap is_sign_byte (sym z) ∙ e)

module _ (x : ℕ) (s : List ℕ) (end i : ℕ) (kind : (t : List ℕ) → is_lexeme (x ∷ t) ≡ is_sign (x ∷ t)) where
  sign_token-taken :
      (sign : ℕ) → (sign ≡ 0 → ⊥) → Lexeme (Sign i sign) (take (sign_width sign) (x ∷ s)) → NoneLonger (x ∷ s) (sign_width sign)
      → Taken (x ∷ s) i (sign_token end i sign)
  unfolding sign_token
  sign_token-taken sign some is none =
      let width : i + sign_width sign - i ≡ sign_width sign = omega arith in
      rw (ne_eqb sign 0 some, sign_token) (refl, rw width (is, none))

  -- a sign of more than one byte
  long-taken : long_sign (x ∷ s) < 9 → Taken (x ∷ s) i (sign_token end i (128 + long_sign (x ∷ s)))
  unfolding sign_bytes
  long-taken h =
      let k : ℕ = long_sign (x ∷ s) in
      let back : 128 + k - 128 ≡ k = omega arith in
      sign_token-taken (128 + k) (λ z. omega arith)
      (rw (found-is (x ∷ s) h) (long_sign_lem k h), found-is (x ∷ s) h ∙ rw (le-ltb (128 + k) 128 (omega arith), sign_bytes) (ap (λ (n : ℕ). get_or long_signs n []) (sym back)))
      (longer-none is_sign x s (sign_width (128 + k)) kind
      (λ m g le. not-true (is_sign (x ∷ take m s)) (λ e. omega (arith, (sign-entry x s m (omega (arith, sign-some (128 + k))) le e).1))))

  -- a sign of one byte
  short-taken : 9 ≤ long_sign (x ∷ s) → is_sign_byte x ≡ true → Taken (x ∷ s) i (sign_token end i x)
  unfolding is_sign sign_bytes
  short-taken h e =
      let one : sign_width x ≡ 1 = omega (arith, byte_width x e, sign-some x) in
      sign_token-taken x (byte-some x e)
      (rw one (e, rw (lt-ltb x 128 (byte_small x e), sign_bytes)))
      (rw one (longer-none is_sign x s 1 kind (λ m g le. not-true (is_sign (x ∷ take m s)) (λ t. omega (arith, (sign-entry x s m (omega arith) le t).0)))))

  -- none
  none-taken : 9 ≤ long_sign (x ∷ s) → is_sign_byte x ≡ false → Taken (x ∷ s) i (sign_token end i 0)
  unfolding sign_token bad_token is_sign
  none-taken h e = (refl, inl (longer-none is_sign x s 0 kind none))
    where
      none : (m : ℕ) → 0 < suc m → m ≤ length s → is_sign (x ∷ take m s) ≡ false
      none zero g le = e
      none (suc m) g le = not-true (is_sign (x ∷ take (suc m) s)) (λ t. omega (arith, (sign-entry x s (suc m) (omega arith) le t).0))

  -- a comment that is never closed
  pub comment-taken : begins (47 ∷ 42 ∷ []) (x ∷ s) ≡ true → Taken (x ∷ s) i (sign_token end i 0)
  unfolding sign_token bad_token
  comment-taken e = (refl, inr (inl e))

  pub sign-taken : Taken (x ∷ s) i (sign_token end i (longest_sign (x ∷ s)))
  unfolding longest_sign sign_number
  sign-taken =
      either-by (λ (n : ℕ). Taken (x ∷ s) i (sign_token end i n)) (ltb (long_sign (x ∷ s)) 9) (λ e. long-taken (ltb-true _ 9 e))
      (λ e. either-by (λ (n : ℕ). Taken (x ∷ s) i (sign_token end i n)) (is_sign_byte x) (short-taken (ltb-false _ 9 e)) (none-taken (ltb-false _ 9 e)))
