-- Searches: in a table, the first entry, range, piece or bit that passes a test.
use Rattle.std.specs.Prelude.{ℕ, Bool, ◌&&◌, ◌||◌, not, List, leb, Option}
use Rattle.std.specs.List.{find, range_with_len}
use Rattle.bits.specs.Bits.{bit}
use Rattle.tables.specs.Tables.{RegisterPart, register_part_of, variable_part_of}
use Rattle.tables.specs.Rules.{clashes, serves, tells}
use Rattle.tables.specs.Scan.{overlap}
use Rattle.tables.specs.declared.Part.{Part}
use Rattle.tables.specs.View.{part_no}

-- the first number below n that passes
abbrev pub first : ℕ → (ℕ → Bool) → Option ℕ
first n passes = find passes (range_with_len 0 n)

-- 10: register j has the place of register i in a part
abbrev pub serves_with : List ℕ → ℕ → Part → ℕ → Bool
serves_with rs i part j = serves (register_part_of rs (part_no part) j) (register_part_of rs (part_no part) i).parameter (register_part_of rs (part_no part) i).offset

-- .. and may not: the two clash
abbrev pub clashes_with : List ℕ → ℕ → Part → ℕ → Bool
clashes_with rs i part j = clashes (part_no part) (register_part_of rs (part_no part) i) (register_part_of rs (part_no part) j)

-- bit b tells the masks of registers i and j apart; it could, for it is fixed in one and `*` in the other
abbrev pub tells_with : List ℕ → ℕ → Part → ℕ → ℕ → Bool
tells_with rs i part j b = tells (register_part_of rs (part_no part) i) (register_part_of rs (part_no part) j) b

abbrev pub is_star : RegisterPart → ℕ → Bool
is_star part b = not (bit b part.dots) && not (bit b part.fixed)

abbrev pub could_tell_by : RegisterPart → RegisterPart → ℕ → Bool
could_tell_by one other b = (bit b one.fixed && is_star other b) || (is_star one b && bit b other.fixed)

-- 11: bit b lies from low to high and is no dot; pieces j and k of a part share a bit
abbrev pub undotted : List ℕ → ℕ → Part → ℕ → ℕ → ℕ → Bool
undotted rs i part low high b = leb low b && leb b high && not (bit b (register_part_of rs (part_no part) i).dots)

abbrev pub overlaps_at : List ℕ → ℕ → Part → ℕ → ℕ → Bool
overlaps_at vs v part k j = overlap ((variable_part_of vs (part_no part) v).piece j) ((variable_part_of vs (part_no part) v).piece k)
