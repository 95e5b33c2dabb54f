-- The bit lists of a variable: the registers that they name, which of them gives which part, and the words of a part.
-- A list was read into five words for each piece: the place and the length of the register's name, whether it is taken
-- whole, the high bit and the low one.
-- `rs` are the registers; a part p is 0 for read and 1 for write.
use Rattle.std.specs.Prelude.{ℕ, zero, suc, ◌+◌, ◌-◌, ◌*◌, Bool, ◌&&◌, cond, List, [], ◌∷◌, eqb, get_or, replicate, Option, Some, None}
use Rattle.syntax.specs.declared.variable.Variable.{Variable}
use Rattle.tables.specs.Every.{every}
use Rattle.tables.specs.Words.{present, register_part, register_width}
use Rattle.rules.specs.declared.fault.Fault.{Fault}
use Rattle.rules.specs.declared.lists.Given.{Given}
use Rattle.rules.specs.declared.lists.Given.TheVariants.{First, Second}
use Rattle.rules.specs.Fault.{no_fault, fault_if, or_else}
use Rattle.rules.specs.Modifiers.{are_paired}
use Rattle.rules.specs.Names.{name_of, register_named, is_nothing, index_of}
use Rattle.rules.specs.Words.{word_of, written}

-- 02, No. 6: "masks and bit numbers follow": a whole register is all its bits. The high bit of piece k, of register r:
-- as it is read, or the highest that the register has, where it is taken whole
unfoldable pub high_in : List ℕ → List ℕ → ℕ → ℕ → ℕ
high_in rs list k r = cond (eqb (get_or list (5 * k + 2) 0) 1) (register_width rs r - 1) (get_or list (5 * k + 3) 0)

module _ (text rs list : List ℕ) where
  -- the register that piece k names
  unfoldable pub piece_named : ℕ → Option ℕ
  piece_named k = register_named text rs (name_of text (get_or list (5 * k) 0) (get_or list (5 * k + 1) 0))

  -- 7: the first of n pieces whose name is no register's
  unfoldable pub unknown_in : ℕ → Option Fault
  unknown_in zero = no_fault
  unknown_in (suc n) = or_else (unknown_in n) (fault_if (is_nothing (piece_named n)) 7 (get_or list (5 * n) 0))

  -- piece k as the tables hold it: the register's index, the high bit and the low one
  unfoldable pub piece_words : ℕ → List ℕ
  piece_words k =
      let r : ℕ = word_of (index_of (piece_named k)) in
      r ∷ word_of (high_in rs list k r) ∷ word_of (get_or list (5 * k + 4) 0) ∷ []

  -- the first n pieces, on words that were something else before
  unfoldable pub pieces_on : List ℕ → ℕ → List ℕ
  pieces_on words zero = words
  pieces_on words (suc n) = written (pieces_on words n) (3 * n) (piece_words n)

  -- the first n pieces, at most eight, and zeros after them
  abbrev pub pieces_of : ℕ → List ℕ
  pieces_of n = pieces_on (replicate 24 0) n

-- ── which list gives which part ──

-- its lists are paired, as ports are
abbrev pub paired : Variable → Bool
paired d = are_paired (eqb d.rest.count 0) d.mark d.rest.mark

-- each of n pieces is of a register that has the part
unfoldable pub all_have : List ℕ → ℕ → List ℕ → ℕ → Bool
all_have rs p pieces n = every n (λ k. present rs (register_part (get_or pieces (3 * k) 0) p))

-- the number of a list that gives a part: 1 for the first, 2 for the second, 0 for none
abbrev pub list_no : Option Given → ℕ
list_no None = 0
list_no (Some First) = 1
list_no (Some Second) = 2

-- 1 for the first list, 2 for the second, 0 for none: the list with the part's modifier, or a bare one whose registers
-- all have the part
unfoldable pub list_for : List ℕ → Variable → List ℕ → ℕ → ℕ
list_for rs d first p =
    cond (paired d)
    (cond (eqb d.mark (p + 1)) 1
    (cond (eqb d.rest.mark (p + 1)) 2
    (cond (eqb d.mark 0 && all_have rs p first d.count) 1 0)))
    0

-- the 27 words of a part, by the list that gives it: present, trigger, count and pieces, or zeros
unfoldable pub part_words : Variable → List ℕ → List ℕ → ℕ → ℕ → List ℕ
part_words d first second trigger from =
    cond (eqb from 1) (1 ∷ trigger ∷ word_of d.count ∷ first)
    (cond (eqb from 2) (1 ∷ trigger ∷ word_of d.rest.count ∷ second) (replicate 27 0))
