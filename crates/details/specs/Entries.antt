-- The names that the entries of the tables record, and the words of their parts.
use Rattle.std.specs.Prelude.{ℕ, ◌+◌, ◌<◌, ◌^◌, ◌≡◌, Bool, List, eqb, get_or}
use Rattle.tables.specs.Every.{every}
use Rattle.tables.specs.Tables.{parameter_at, register_at, variable_at, register_part, variable_part}
use Rattle.details.specs.declared.entries.Entry.{Entry}
use Rattle.details.specs.declared.entries.Entry.TheVariants.{Parameter, Register, Variable}
use Rattle.rules.specs.Names.{name_of}

-- the name recorded by the entry at a word of a table
abbrev pub name_in : List ℕ → List ℕ → ℕ → List ℕ
name_in text table at = name_of text (get_or table at 0) (get_or table (at + 1) 0)

-- the word of its table at which entry i starts
abbrev pub entry_at : Entry → ℕ → ℕ
entry_at Parameter i = parameter_at i
entry_at Register i = register_at i
entry_at Variable i = variable_at i

-- what the place of a word in a table promises: which it is, and that places near it are numbers of the machine too
pub record Stands (at r : ℕ) : Type 0 where
  pub is : r ≡ at
  pub small : r < 2 ^ 40

-- so many words of a table, from two places on, are the same
unfoldable pub alike : List ℕ → ℕ → ℕ → ℕ → Bool
alike t a b n = every n (λ k. eqb (get_or t (a + k) 0) (get_or t (b + k) 0))

-- both parts of a register have one place; both parts of a variable have the same bits and trigger
abbrev pub same_place : List ℕ → ℕ → Bool
same_place rs i = alike rs (register_part i 0) (register_part i 1) 3

abbrev pub same_parts : List ℕ → ℕ → Bool
same_parts vs v = alike vs (variable_part v 0) (variable_part v 1) 27
