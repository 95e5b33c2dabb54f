-- `tables::pieces::bit_count` meets its contract: the loop invariant says that what is gathered so far is the
-- definition at the counter.
use Rattle.tables.specs.Tables.{bits_to, variable_part_in}
use lib.ListN.{length}
use mathlib.Core.Path.{◌≡◌}
use Prim.Native.Nat.{◌≤◌, ◌*◌}
use Rattle.tables.proofs.pieces.bit_count.Given as goal

abbrev pub invariant-loop-k : goal.invariant-loop-k
invariant-loop-k l = (l.bits ≤ 4294967296 * l.k) × (l.bits ≡ length (bits_to (variable_part_in l.variables l.at) l.k))
