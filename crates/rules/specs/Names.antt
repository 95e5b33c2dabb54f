-- Names. An entry of a table records where its name stands in the text: the place in its first word, the length in its
-- second.
use Rattle.std.specs.Prelude.{ℕ, ◌+◌, ◌-◌, ◌*◌, ◌/◌, ◌<◌, ◌^◌, min, ◌≡◌, Bool, true, false, ◌&&◌, ◌||◌, List, eqb, ltb, length, get_or, take, drop, Option}
use Rattle.std.specs.Bool.{then_some}
use Rattle.std.specs.Option.{is_some, is_none, unwrap_or}
use Rattle.token.specs.Bytes.{begins}
use Rattle.tables.specs.Every.{first_of}
use Rattle.tables.specs.Tables.{count_of}
use Rattle.rules.specs.declared.fault.Fault.{Fault}
use Rattle.rules.specs.Fault.{fault_if}
use Rattle.rules.specs.State.{State}

-- the bytes of a name that stands in the text
abbrev pub name_of : List ℕ → ℕ → ℕ → List ℕ
name_of text place extent = take extent (drop place text)

-- the name recorded by this place and length lies inside the text and is `name`; the empty name is no one's
unfoldable pub stands_at : List ℕ → ℕ → ℕ → List ℕ → Bool
stands_at text place extent name = ltb 0 (length name) && eqb extent (length name) && begins name (drop place text)

-- the entry at word `at` of a table is recorded under this name
unfoldable pub is_named : List ℕ → List ℕ → ℕ → List ℕ → Bool
is_named text table at name = stands_at text (get_or table at 0) (get_or table (at + 1) 0) name

-- how many of the counted entries, each of `stride` words, the table holds whole
unfoldable pub held_of : ℕ → List ℕ → ℕ
held_of stride table = min (count_of table) ((length table - 1) / stride)

-- what counting them promises: the number, and that it is small
pub record Held (stride : ℕ) (table : List ℕ) (r : ℕ) : Type 0 where
  pub is : r ≡ held_of stride table
  pub small : r < 2 ^ 32

-- the number below n, or none
unfoldable pub found_below : ℕ → ℕ → Option ℕ
found_below n i = then_some (ltb i n) i

-- the first of these entries with the name, or none
unfoldable pub found_in : List ℕ → List ℕ → ℕ → List ℕ → Option ℕ
found_in text table stride name = found_below (held_of stride table) (first_of (held_of stride table) (λ i. is_named text table (stride * i + 1) name))

-- entries of parameters, registers and variables have 36, 15 and 59 words
abbrev pub parameter_named : List ℕ → List ℕ → List ℕ → Option ℕ
parameter_named text parameters name = found_in text parameters 36 name

abbrev pub register_named : List ℕ → List ℕ → List ℕ → Option ℕ
register_named text registers name = found_in text registers 15 name

abbrev pub variable_named : List ℕ → List ℕ → List ℕ → Option ℕ
variable_named text variables name = found_in text variables 59 name

abbrev pub is_nothing : Option ℕ → Bool
is_nothing found = is_none found

-- the index found, 0 where none is
abbrev pub index_of : Option ℕ → ℕ
index_of found = unwrap_or found 0

-- 6: the name is already declared, by the device, a parameter, a register or a variable
unfoldable pub is_declared : List ℕ → State → List ℕ → Bool
is_declared text s name =
    stands_at text s.place s.extent name || is_some (parameter_named text s.parameters name) ||
    is_some (register_named text s.registers name) || is_some (variable_named text s.variables name)

-- 6, at the declared name
unfoldable pub declared_before : List ℕ → State → ℕ → ℕ → Option Fault
declared_before text s place extent = fault_if (is_declared text s (name_of text place extent)) 6 place

-- a name that is called fresh is declared by none
abbrev pub Fresh : Bool → List ℕ → State → ℕ → ℕ → Type 0
Fresh fresh text s place extent = fresh ≡ true → is_declared text s (name_of text place extent) ≡ false
