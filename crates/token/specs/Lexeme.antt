-- What a token's bytes may be: section 2 of 001 as tests on whole slices, with nothing said of how they are found. The
-- theorem of proofs/Longest.antt is that the reader always takes the longest such slice.
use Rattle.std.specs.Prelude.{Bool, true, false, ◌&&◌, ◌||◌, List, [], ◌∷◌, ◌⊎◌, ◌≡◌, ℕ, ◌+◌, ◌-◌, ◌≤◌, ◌<◌, eqb, ltb, length, get_or, take, drop}
use Prim.Native.Char.{code}
use Rattle.token.specs.Bytes.{bytes, same, begins, within}
use Rattle.token.specs.Word.{is_letter, is_name_byte, reserved}
use Rattle.token.specs.Number.{value_from, largest}
use Rattle.token.specs.Sign.{long_signs, is_sign_byte}
use Rattle.token.specs.Scan.{is_bit}
use Rattle.token.specs.declared.Token.{Token}
use Rattle.token.specs.declared.Token.TheVariants.{Name, Word, Number, Bits, Sign, End, Bad}

-- ( .. )*
unfoldable pub many : (ℕ → Bool) → List ℕ → Bool
many test [] = true
many test (x ∷ s) = test x && many test s

-- ( .. )+
unfoldable pub some : (ℕ → Bool) → List ℕ → Bool
some test [] = false
some test (x ∷ s) = test x && many test s

-- 001: ident ::= letter (letter | digit | _)*
unfoldable pub is_ident : List ℕ → Bool
is_ident [] = false
is_ident (x ∷ s) = is_letter x && many is_name_byte s

-- 001: 0..9, and 0..9 | A..F | a..f, and 0..7
unfoldable pub is_decimal : ℕ → Bool
is_decimal x = within (code "0") (code "9") x

unfoldable pub is_hexadecimal : ℕ → Bool
is_hexadecimal x = within (code "0") (code "9") x || within (code "A") (code "F") x || within (code "a") (code "f") x

unfoldable pub is_octal : ℕ → Bool
is_octal x = within (code "0") (code "7") x

-- 001: integer-literal ::= (0..9)+ | 0x (0..9 | A..F | a..f)+ | 0o (0..7)+
unfoldable pub is_integer : List ℕ → Bool
is_integer s =
    some is_decimal s || (begins (bytes "0x") s && some is_hexadecimal (drop 2 s)) || (begins (bytes "0o") s && some is_octal (drop 2 s))

-- 001: "Prefix 0x: hexadecimal (radix 16), 0o: octal (radix 8)"
unfoldable pub value_of : List ℕ → ℕ
value_of s =
    elim (begins (bytes "0x") s) [
      | true ↦ value_from 16 (drop 2 s) 0
      | false ↦ elim (begins (bytes "0o") s) [ true ↦ value_from 8 (drop 2 s) 0 | false ↦ value_from 10 s 0 ]
    ]

-- (bit)* '
unfoldable pub closes_bits : List ℕ → Bool
closes_bits [] = false
closes_bits (x ∷ []) = eqb x (code "'")
closes_bits (x ∷ y ∷ s) = is_bit x && closes_bits (y ∷ s)

-- 001: bits-literal ::= ' (bit)+ '
unfoldable pub is_bits_literal : List ℕ → Bool
is_bits_literal [] = false
is_bits_literal (x ∷ []) = false
is_bits_literal (x ∷ y ∷ s) = eqb x (code "'") && is_bit y && closes_bits s

-- s is an entry of the table
unfoldable pub entry_of : List (List ℕ) → List ℕ → Bool
entry_of [] s = false
entry_of (p ∷ table) s = same s p || entry_of table s

-- 001: the operators, and "the following character sequences are also reserved"
unfoldable pub is_sign : List ℕ → Bool
is_sign [] = false
is_sign (x ∷ []) = is_sign_byte x
is_sign (x ∷ y ∷ s) = entry_of long_signs (x ∷ y ∷ s)

-- a slice that may be a token; a reserved word is an identifier that is kept for the language
unfoldable pub is_lexeme : List ℕ → Bool
is_lexeme s = is_ident s || is_integer s || is_bits_literal s || is_sign s

-- the bytes of the sign of a number
unfoldable pub sign_bytes : ℕ → List ℕ
sign_bytes sign = elim (ltb sign 128) [ true ↦ sign ∷ [] | false ↦ get_or long_signs (sign - 128) [] ]

-- the slice s is what the token says that it is, wherever it stands
abbrev pub Lexeme : Token → List ℕ → Type 0
Lexeme (Name place n) s = (is_ident s ≡ true) × (length s ≡ n) × ((k : ℕ) → k < 29 → s ≡ get_or reserved k [] → ⊥)
Lexeme (Word place k) s = (k < 29) × (s ≡ get_or reserved k [])
Lexeme (Number place value) s = (is_integer s ≡ true) × (value_of s ≡ value) × (value ≤ largest)
Lexeme (Bits place n) s = (is_bits_literal s ≡ true) × (length s ≡ n + 2)
Lexeme (Sign place sign) s = (is_sign s ≡ true) × (s ≡ sign_bytes sign)
Lexeme (End place) s = s ≡ []
Lexeme (Bad place) s = ⊥

-- no slice of more than n bytes at the front of s may be a token
abbrev pub NoneLonger : List ℕ → ℕ → Type 0
NoneLonger s n = (m : ℕ) → n < m → m ≤ length s → is_lexeme (take m s) ≡ false

-- 01, refusal 3, in its words, at the front of s: "no token begins here, a .. bits literal is unclosed, .. empty or
-- holds another character", "a comment .. is unclosed", "or a number is too large", which is then the longest match. A
-- comment's opening pair that is left where a token is due is unclosed, as specs/Passed.antt says of what is passed
-- before a token
abbrev pub NoToken : List ℕ → Type 0
NoToken s =
    NoneLonger s 0
    ⊎ (begins (bytes "/*") s ≡ true)
    ⊎ ((n : ℕ) × (is_integer (take n s) ≡ true) × (largest < value_of (take n s)) × NoneLonger s n)

-- 001: the "longest match" rule, for a token at the front of s that takes n bytes
abbrev pub Longest : List ℕ → ℕ → Token → Type 0
Longest s n (Name place l) = Lexeme (Name place l) (take n s) × NoneLonger s n
Longest s n (Word place k) = Lexeme (Word place k) (take n s) × NoneLonger s n
Longest s n (Number place value) = Lexeme (Number place value) (take n s) × NoneLonger s n
Longest s n (Bits place l) = Lexeme (Bits place l) (take n s) × NoneLonger s n
Longest s n (Sign place sign) = Lexeme (Sign place sign) (take n s) × NoneLonger s n
Longest s n (End place) = s ≡ []
Longest s n (Bad place) = NoToken s
