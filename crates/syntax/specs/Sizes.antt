-- Document 01, "Sizes" and refusal 5: at which token of a text a size is first passed. It is a count over the tokens
-- from left to right, and knows nothing of how a text is read. It is meant as far as the tokens begin a text of the
-- grammar; from the token on that breaks it, refusal 3 or 4 is given before.
use Rattle.std.specs.Prelude.{ℕ, suc, ◌≤◌, ◌≡◌, ◌⊎◌, Bool, true, false, ◌&&◌, ◌||◌, cond, List, [], ◌∷◌, eqb, leb, ltb, length, Ok, Err}
use Rattle.std.proofs.Math.Option.{Option, none, some}
use Rattle.token.specs.declared.Token.{Token}
use Rattle.token.specs.declared.Token.TheVariants.{Name, Word, Number, Bits, Sign, End, Bad}
use Rattle.token.specs.Fair.{place_of}
use Rattle.token.specs.Kind.{kind_of}
use Rattle.token.specs.Tokens.{tokens_of}
use Rattle.syntax.specs.Step.{Step}
use Rattle.syntax.specs.Limits.{name_bytes, most_parameters, most_ranges, most_registers, most_variables, most_pieces, deepest}
use Rattle.syntax.specs.KindNames.{sign, 'register', 'variable'}

-- ---- where a token stands, and what is counted there

-- what may enclose a number in an offset
pub data Encloser : Type 0 where
  parenthesis : Encloser
  minus : Encloser

pub data Spot : Type 0 where
  front : Spot  -- before the parameters
  parameter : ℕ → Spot  -- in the parameter of this number, from 1
  range : ℕ → ℕ → Spot  -- in that parameter, in the braces, in the range of this number
  body : Spot  -- behind the parameters, outside of declarations
  register : List Encloser → Spot  -- in a register; in an offset behind an operand, with what still encloses it
  operand : List Encloser → Spot  -- in an offset where an operand is due, with what will enclose it, innermost first
  piece : ℕ → Spot  -- in a variable, in the piece of this number of a bit list
  bracket : ℕ → Spot  -- the same, in the brackets of a register, where each range is a piece

-- A minus ends with its operand; a parenthesis where it is closed, and with it the minuses before it.
unfoldable pub ended : List Encloser → List Encloser
ended [] = []
ended (parenthesis ∷ o) = parenthesis ∷ o
ended (minus ∷ o) = ended o

unfoldable pub closed : List Encloser → List Encloser
closed [] = []
closed (parenthesis ∷ o) = ended o
closed (minus ∷ o) = closed o

-- an operand is due behind these
unfoldable pub asks_operand : ℕ → Bool
asks_operand k = eqb k (sign "@") || eqb k (sign "+") || eqb k (sign "-") || eqb k (sign "*") || eqb k (sign "/") || eqb k (sign "%")

-- the spot behind a token of this kind
unfoldable pub onward : Spot → ℕ → Spot
onward front k = cond (eqb k (sign "(")) (parameter 1) front
onward (parameter n) k =
    cond (eqb k (sign ",")) (parameter (suc n))
    (cond (eqb k (sign "{")) (range n 1)
    (cond (eqb k (sign ")")) body
    (parameter n)))
onward (range n m) k =
    cond (eqb k (sign ",")) (range n (suc m))
    (cond (eqb k (sign "}")) (parameter n)
    (range n m))
onward body k =
    cond (eqb k 'register') (register [])
    (cond (eqb k 'variable') (piece 1)
    body)
onward (register o) k =
    cond (asks_operand k) (operand o)
    (cond (eqb k (sign ")")) (register (closed o))
    (cond (eqb k (sign ";")) body
    (register o)))
onward (operand o) k =
    cond (eqb k (sign "(")) (operand (parenthesis ∷ o))
    (cond (eqb k (sign "-")) (operand (minus ∷ o))
    (register (ended o)))
onward (piece n) k =
    cond (eqb k (sign "#")) (piece (suc n))
    (cond (eqb k (sign "[")) (bracket n)
    (cond (eqb k (sign ",")) (piece 1)
    (cond (eqb k (sign ";")) body
    (piece n))))
onward (bracket n) k =
    cond (eqb k (sign ",")) (bracket (suc n))
    (cond (eqb k (sign "]")) (piece n)
    (bracket n))

-- Whether a token of this kind passes a size at the spot. The first token of a parameter, range or piece too many does,
-- whatever it is: where none can begin with it, refusal 4 names the same token, and the lower number is given. In an
-- offset a parenthesis or a minus does that as many enclose as may.
unfoldable pub passes_at : Spot → ℕ → Bool
passes_at front k = false
passes_at (parameter n) k = ltb most_parameters n
passes_at (range n m) k = ltb most_ranges m
passes_at body k = false
passes_at (register o) k = false
passes_at (operand o) k = (eqb k (sign "(") || eqb k (sign "-")) && leb deepest (length o)
passes_at (piece n) k = ltb most_pieces n
passes_at (bracket n) k = ltb most_pieces n

-- ---- the count

pub record Tally : Type 0 where
  pub registers : ℕ
  pub variables : ℕ
  pub spot : Spot

unfoldable pub nothing_yet : Tally
nothing_yet = record { registers = 0; variables = 0; spot = front }

unfoldable pub tallied : Tally → ℕ → Tally
tallied c k =
    record {
      registers = cond (eqb k 'register') (suc c.registers) c.registers;
      variables = cond (eqb k 'variable') (suc c.variables) c.variables;
      spot = onward c.spot k;
    }

unfoldable pub long_name : Token → Bool
long_name (Name place length) = ltb name_bytes length
long_name (Word place word) = false
long_name (Number place value) = false
long_name (Bits place length) = false
long_name (Sign place sign) = false
long_name (End place) = false
long_name (Bad place) = false

-- whether a size is passed at a token of this kind, the lengths of names aside
unfoldable pub too_much : Tally → ℕ → Bool
too_much c k =
    (eqb k 'register' && ltb most_registers (suc c.registers))
    || ((eqb k 'variable' && ltb most_variables (suc c.variables))
    || passes_at c.spot k)

-- the place of the first token at which a size is passed
unfoldable pub passed_in : Tally → List Token → Option ℕ
passed_in c [] = none
passed_in c (t ∷ ts) = elim (long_name t || too_much c (kind_of t)) [ true ↦ some (place_of t) | false ↦ passed_in (tallied c (kind_of t)) ts ]

-- THE PLACE OF REFUSAL 5
unfoldable pub passed_at : List ℕ → Option ℕ
passed_at text = passed_in nothing_yet (tokens_of text)

-- ---- what a reading answers by it

-- no place, or none before p
abbrev pub NotBefore : Option ℕ → ℕ → Type 0
NotBefore none p = Unit {0}
NotBefore (some q) p = p ≤ q

-- A text that reads passes no size; refusal 5 is given at the place where one is first passed; any other, where none is
-- passed before.
unfoldable pub Kept : Option ℕ → Step → Type 0
Kept passed (Ok end) = passed ≡ none
Kept passed (Err refusal) =
    ((refusal.number ≡ 5) × (passed ≡ some refusal.place)) ⊎ ((refusal.number ≡ 5 → ⊥) × NotBefore passed refusal.place)
