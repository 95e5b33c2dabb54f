-- Which variable holds a bit, or has one in a register. A bit's number is 64 * register + bit, as in `bits_of`.
use Rattle.std.specs.Prelude.{ℕ, ◌≤◌, ◌^◌, ◌≡◌, Bool, ◌&&◌, ◌||◌, cond, List, [], ◌∷◌, eqb, length, Option, Some, None}
use Rattle.tables.specs.Marks.{has}
use Rattle.tables.specs.Tables.{bits_of, mentioned_to, mentioned_by, variable_part_of}
use Rattle.tables.specs.declared.Part.{Part}
use Rattle.tables.specs.View.{part_no}
use Rattle.details.specs.declared.holders.Shared.{Shared}
use Rattle.details.specs.declared.holders.Shared.TheVariants.{Bit, Register}

-- variable v maps this bit in a part
abbrev pub holds : List ℕ → Part → ℕ → ℕ → Bool
holds vs part number v = has number (bits_of vs (part_no part) v)

-- how many numbers of a list stand behind x, unless x is none of them; the weight of a bit in variable v, whose most
-- significant bit comes first
unfoldable pub behind : ℕ → List ℕ → Option ℕ
behind x [] = None
behind x (y ∷ ys) = cond (eqb x y) (Some (length ys)) (behind x ys)

abbrev pub weight_in : List ℕ → Part → ℕ → ℕ → Option ℕ
weight_in vs part number v = behind number (bits_of vs (part_no part) v)

-- what counting the bits of a piece promises: how many they are, and that they are no more than its words allow
pub record Few (n r : ℕ) : Type 0 where
  pub is : r ≡ n
  pub small : r ≤ 2 ^ 32

-- variable v has a bit in this register, in a part; it is trigger for the part
abbrev pub touches : List ℕ → Part → ℕ → ℕ → Bool
touches vs part register v = has register (mentioned_by vs (part_no part) v)

abbrev pub pulls : List ℕ → Part → ℕ → Bool
pulls vs part v = eqb (variable_part_of vs (part_no part) v).trigger 1

-- 14: variables v and u share this bit in a part
abbrev pub share_bit : List ℕ → ℕ → Part → ℕ → ℕ → Bool
share_bit vs v part bit u = holds vs part bit v && holds vs part bit u

-- 15: this register, one of the two being trigger
abbrev pub share_register : List ℕ → ℕ → Part → ℕ → ℕ → Bool
share_register vs v part register u = touches vs part register v && touches vs part register u && (pulls vs part v || pulls vs part u)

-- the one or the other
abbrev pub share_in : List ℕ → ℕ → Part → Shared → ℕ → ℕ → Bool
share_in vs v part Bit bit u = share_bit vs v part bit u
share_in vs v part Register register u = share_register vs v part register u

-- a register is mentioned by one of the first k pieces of a variable's part
abbrev pub mentioned_below : List ℕ → Part → ℕ → ℕ → ℕ → Bool
mentioned_below vs part register v k = has register (mentioned_to (variable_part_of vs (part_no part) v) k)
