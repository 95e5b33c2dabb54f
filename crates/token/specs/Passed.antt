-- What stands between tokens, as the papers say it, with nothing said of how it is passed over (001 section 2, "Blanks"
-- and "Comments"; 01, "Tokens"). `Passed s r` says of the bytes of s that stand before its tail r. That the reader
-- passes over just this is the theorem of proofs/Gaps.antt.
use Rattle.std.specs.Prelude.{true, false, List, [], ◌∷◌, ◌≡◌, ℕ, eqb, drop}
use Prim.Native.Char.{code}
use Rattle.token.specs.Bytes.{bytes, begins}
use Rattle.token.specs.Gap.{is_blank}

-- 01: "`//` runs to the newline or the end of the text"
pub data LineTo : List ℕ → List ℕ → Type 0 where
  at-end : LineTo [] []
  at-newline : {s : List ℕ} → LineTo (code "\n" ∷ s) (code "\n" ∷ s)
  line_on : {x : ℕ} {s r : List ℕ} → eqb x (code "\n") ≡ false → LineTo s r → LineTo (x ∷ s) r

-- 01: "A block comment ends at the first closing pair that starts after the opening two characters"
pub data BlockTo : List ℕ → List ℕ → Type 0 where
  closes : {s : List ℕ} → BlockTo (code "*" ∷ code "/" ∷ s) s
  block_on : {x : ℕ} {s r : List ℕ} → begins (bytes "*/") (x ∷ s) ≡ false → BlockTo s r → BlockTo (x ∷ s) r

-- 001: "space, newline and horizontal tabulation", and "Comments are treated as blanks"
pub data Passed : List ℕ → List ℕ → Type 0 where
  nothing : {s : List ℕ} → Passed s s
  blank : {x : ℕ} {s r : List ℕ} → is_blank x ≡ true → Passed s r → Passed (x ∷ s) r
  line-comment : {s t r : List ℕ} → LineTo s t → Passed t r → Passed (code "/" ∷ code "/" ∷ s) r
  block-comment : {s t r : List ℕ} → BlockTo s t → Passed t r → Passed (code "/" ∷ code "*" ∷ s) r

-- no closing pair stands in s
abbrev pub Unclosed : List ℕ → Type 0
Unclosed s = (j : ℕ) → begins (bytes "*/") (drop j s) ≡ false

-- no blank and no comment begins here; what opens like a block comment is never closed
abbrev pub Stops : List ℕ → Type 0
Stops [] = Unit {0}
Stops (x ∷ s) = (is_blank x ≡ false) × (begins (bytes "//") (x ∷ s) ≡ false) × (begins (bytes "/*") (x ∷ s) ≡ true → Unclosed (drop 1 s))
