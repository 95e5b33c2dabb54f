-- Where rules 14, 15 and 16 break: the first bit or register, in the order of the tables. `Search` says where 8, 10 and
-- 11 do.
use Rattle.std.specs.Prelude.{ℕ, Bool, ◌&&◌, List, Option, is_none, is_some, option_map, option_and_then}
use Rattle.bits.specs.Bits.{bit}
use Rattle.tables.specs.Tables.{register_part_of}
use Rattle.tables.specs.declared.Part.{Part}
use Rattle.tables.specs.View.{part_no}
use Rattle.details.specs.Search.{first}
use Rattle.details.specs.Rows.{holder_of}

-- 14, 15: of so many bits or registers, the first that another variable shares, with that variable
unfoldable pub first_shared : ℕ → (ℕ → Option ℕ) → Option (ℕ × ℕ)
first_shared most other = option_and_then (λ n. option_map (λ u. (n, u)) (other n)) (first most (λ n. is_some (other n)))

-- 16: bit b of a register's part is a dot that no variable maps
abbrev pub bare : List ℕ → List ℕ → ℕ → Part → ℕ → Bool
bare rs vs i part b = bit b (register_part_of rs (part_no part) i).dots && is_none (holder_of vs part i b)
