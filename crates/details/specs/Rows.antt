-- What a row of the map shows of a register's part.
use Rattle.std.specs.Prelude.{ℕ, ◌+◌, ◌-◌, ◌*◌, Bool, ◌&&◌, not, List, eqb, Option, unwrap_or, option_and_then}
use Rattle.std.specs.Option.{option_eq}
use Rattle.tables.specs.Every.{every}
use Rattle.tables.specs.Tables.{count_of, register_part}
use Rattle.bits.specs.Widths.{widest}
use Rattle.tables.specs.declared.Part.{Part}
use Rattle.tables.specs.declared.Part.TheVariants.{Read, Write}
use Rattle.details.specs.Entries.{alike}
use Rattle.details.specs.Holders.{holds, weight_in}
use Rattle.details.specs.Search.{first}

-- the variable that holds bit b of register i
abbrev pub holder_of : List ℕ → Part → ℕ → ℕ → Option ℕ
holder_of vs part i b = first (count_of vs) (holds vs part (64 * i + b))

-- the weight that it has in that variable, if one holds it
abbrev pub weight_held : List ℕ → Part → ℕ → ℕ → Option ℕ
weight_held vs part i b = option_and_then (weight_in vs part (64 * i + b)) (holder_of vs part i b)

-- the same as a number, by which two bits are compared: where no variable holds the bit, what the words behind the last
-- variable say
abbrev pub weight_of : List ℕ → Part → ℕ → ℕ → ℕ
weight_of vs part i b = unwrap_or (weight_in vs part (64 * i + b) (unwrap_or (holder_of vs part i b) (count_of vs))) 0

-- bits a and b of a register belong together: one variable holds them, and in it they lie as far apart as here; a bit
-- that none holds belongs with itself
abbrev pub together : List ℕ → Part → ℕ → ℕ → ℕ → Bool
together vs part i a b =
    option_eq eqb (holder_of vs part i b) (holder_of vs part i a)
    && eqb (weight_of vs part i b + a) (weight_of vs part i a + b)

-- how many of a register's first `left` bits, from the highest down, belong together
abbrev pub run_below : List ℕ → ℕ → Part → ℕ → ℕ
run_below vs i part left = unwrap_or (first left (λ k. not (together vs part i (left - 1) (left - 1 - k)))) left

-- both parts of a register have one place and one mask, and each bit is the same bit of one variable in both
abbrev pub same_bit : List ℕ → ℕ → ℕ → Bool
same_bit vs i b = option_eq eqb (holder_of vs Read i b) (holder_of vs Write i b) && eqb (weight_of vs Read i b) (weight_of vs Write i b)

unfoldable pub same_holders : List ℕ → ℕ → Bool
same_holders vs i = every widest (same_bit vs i)

abbrev pub same_register : List ℕ → List ℕ → ℕ → Bool
same_register rs vs i = alike rs (register_part i 0) (register_part i 1) 6 && same_holders vs i
