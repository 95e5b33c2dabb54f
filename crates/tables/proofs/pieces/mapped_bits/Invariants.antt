-- `tables::pieces::mapped_bits` meets its contract: the pieces passed fit, and have so many bits.
use Prim.Native.Nat.{◌≤◌, ◌*◌}
use mathlib.Core.Path.{◌≡◌}
use mathlib.Core.Bool.{true, ◌&&◌, not}
use lib.ListN.{length}
use Rattle.tables.specs.Every.{every}
use Rattle.tables.specs.Tables.{bits_to, piece_at, piece_in, variable_part_in}
use Rattle.tables.specs.Rules.{piece_fits}
use Rattle.tables.specs.Scan.{overlaps_earlier}
use Rattle.tables.specs.View.{part_no}
use Rattle.tables.proofs.pieces.mapped_bits.Given as goal

abbrev pub invariant-loop-k : goal.invariant-loop-k
invariant-loop-k l =
    (l.count ≤ 4294967296 * l.k)
    × (every l.k (λ j. piece_fits l.registers (part_no l.part) (piece_in l.variables (piece_at l.at j)) && not (overlaps_earlier l.variables l.at j)) ≡ true)
    × (l.count ≡ length (bits_to (variable_part_in l.variables l.at) l.k))
