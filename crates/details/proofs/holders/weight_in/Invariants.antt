-- `details::holders::weight_in` meets its contract.
use Rattle.std.proofs.Common.{◌≡◌, ◌≤◌, ◌*◌, ◌^◌}
use Rattle.std.specs.Prelude.{IfSome}
use Rattle.tables.specs.Tables.{bits_to, variable_part_of}
use Rattle.tables.specs.View.{part_no}
use Rattle.details.specs.Holders.{behind}
use Rattle.details.proofs.holders.weight_in.Given as goal

abbrev pub invariant-loop-k : goal.invariant-loop-k
invariant-loop-k l = record {
  is : l.weight ≡ behind l.number (bits_to (variable_part_of l.variables (part_no l.part) l.v) l.k);
  small : IfSome l.weight (λ w. w ≤ 2 ^ 32 * l.k);
}
