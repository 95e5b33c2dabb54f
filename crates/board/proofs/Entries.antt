-- The words of table entries, by what they describe. Recorded names stand at place 0 and are not looked at here.
-- Assumes nothing.
use Prim.Native.Nat.{ℕ}
use mathlib.Core.List.{List, ◌∷◌, ◌++◌, []}
use lib.ListN.{replicate}

-- a register's part at an offset of the one parameter, with its mask; an absent part
abbrev pub part : (offset dots fixed ones : ℕ) → List ℕ
part offset dots fixed ones = 1 ∷ 0 ∷ offset ∷ dots ∷ fixed ∷ ones ∷ []

abbrev pub no_part : List ℕ
no_part = replicate 6 0

abbrev pub register : (read write : List ℕ) → List ℕ
register read write = 0 ∷ 1 ∷ 8 ∷ read ++ write

-- a variable's part of one piece, of two; an absent one
abbrev pub piece : (r high low : ℕ) → List ℕ
piece r high low = 1 ∷ 0 ∷ 1 ∷ r ∷ high ∷ low ∷ replicate 21 0

abbrev pub pieces : (r high low s high' low' : ℕ) → List ℕ
pieces r high low s high' low' = 1 ∷ 0 ∷ 2 ∷ r ∷ high ∷ low ∷ s ∷ high' ∷ low' ∷ replicate 18 0

abbrev pub no_pieces : List ℕ
no_pieces = replicate 27 0

abbrev pub variable : (kind width volatile : ℕ) (read write : List ℕ) → List ℕ
variable kind width volatile read write = 0 ∷ 1 ∷ kind ∷ width ∷ volatile ∷ read ++ write

-- one parameter with one range of offsets from 0
abbrev pub parameter : (high : ℕ) → List ℕ
parameter high = 1 ∷ 0 ∷ 1 ∷ 8 ∷ 1 ∷ 0 ∷ high ∷ replicate 570 0

-- a register, a variable, whose two parts are alike
abbrev pub same_parts : (offset dots fixed ones : ℕ) → List ℕ
same_parts offset dots fixed ones = register (part offset dots fixed ones) (part offset dots fixed ones)

abbrev pub plainly : (kind width : ℕ) → List ℕ → List ℕ
plainly kind width bits = variable kind width 0 bits bits
