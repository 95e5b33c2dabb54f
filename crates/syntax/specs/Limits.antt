-- The sizes that document 01 states: of names, of the lists of a text, and of what may enclose a number in an offset.
use Rattle.std.specs.Prelude.{ℕ}

abbrev pub name_bytes : ℕ
name_bytes = 64

abbrev pub most_parameters : ℕ
most_parameters = 16

abbrev pub most_ranges : ℕ
most_ranges = 16

abbrev pub most_registers : ℕ
most_registers = 64

abbrev pub most_variables : ℕ
most_variables = 128

abbrev pub most_pieces : ℕ
most_pieces = 8

abbrev pub deepest : ℕ
deepest = 16
