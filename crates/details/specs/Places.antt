-- Places of a text: lines and columns, both counted from 0 here, columns in bytes; names; declarations.
use Rattle.std.specs.Prelude.{ℕ, zero, suc, ◌≤◌, ◌≡◌, Bool, cond, List, eqb, leb, length, get_or, take, false, ◌==◌, count_by, Option, Some, None}
use Prim.Native.Char.{code}
use Rattle.token.specs.declared.Token.{Token}
use Rattle.token.specs.declared.Token.TheVariants.{Name, Word, Number, Bits, Sign, End, Bad}
use Rattle.token.specs.declared.Scanned.{Scanned}
use Rattle.token.specs.Scan.{scan_at}
use Rattle.token.specs.Fair.{place_of}
use Rattle.token.specs.Kind.{kind_of}
use Rattle.syntax.specs.KindNames.{'register'}
use Rattle.syntax.specs.Text.{begins}
use Rattle.rules.specs.Names.{name_of}

-- the byte before place p + 1 ends a line
abbrev pub breaks_at : List ℕ → ℕ → Bool
breaks_at text p = eqb (get_or text p 0) (code "\n")

-- how many lines end before a place
abbrev pub lines_before : List ℕ → ℕ → ℕ
lines_before text p = count_by (λ b. b == code "\n") (take p text)

-- where the line of a place starts: behind the last newline before it
unfoldable pub line_start : List ℕ → ℕ → ℕ
line_start text zero = 0
line_start text (suc p) = cond (breaks_at text p) (suc p) (line_start text p)

-- what the start of a line promises: where it is, and that it lies at the place or before
pub record Start (text : List ℕ) (place r : ℕ) : Type 0 where
  pub is : r ≡ line_start text place
  pub before : r ≤ place

-- the name at a place, which is empty where none stands there
abbrev pub extent_of : Token → ℕ
extent_of (Name p n) = n
extent_of (Word p w) = 0
extent_of (Number p v) = 0
extent_of (Bits p n) = 0
extent_of (Sign p s) = 0
extent_of (End p) = 0
extent_of (Bad p) = 0

abbrev pub name_at : List ℕ → ℕ → List ℕ
name_at text place = name_of text (place_of (scan_at text place).token) (extent_of (scan_at text place).token)

-- the last word `register` or `variable` before a place, among so many tokens from `at` on; `last` is the last one so
-- far
unfoldable pub opening_from : List ℕ → ℕ → ℕ → ℕ → Option ℕ → Option ℕ
opening_from text place zero at last = last
opening_from text place (suc room) at last =
    let found : Scanned = scan_at text at in
    cond (leb place (place_of found.token)) last
    (opening_from text place room found.next (cond (begins (kind_of found.token)) (Some (place_of found.token)) last))

-- the declaration that a place lies in begins there, unless it lies in a heading
unfoldable pub opening_of : List ℕ → ℕ → Option ℕ
opening_of text place = opening_from text place (length text) 0 None

-- the word that begins a declaration is `register`
abbrev pub is_register_at : List ℕ → Option ℕ → Bool
is_register_at text (Some start) = eqb (kind_of (scan_at text start).token) 'register'
is_register_at text None = false

abbrev pub opens_register : List ℕ → ℕ → Bool
opens_register text place = is_register_at text (opening_of text place)
