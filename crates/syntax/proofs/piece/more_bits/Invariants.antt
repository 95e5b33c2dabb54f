use Prim.Native.Nat.{◌-◌}
use mathlib.Core.Path.{◌≡◌}
use lib.ListN.{length}
use Rattle.syntax.specs.Piece.{more_bits}
use Rattle.syntax.proofs.piece.more_bits.Given as goal

abbrev pub invariant-loop : goal.invariant-loop
invariant-loop l = (length l.table ≡ length l.initial.table) × (more_bits l.text l.name.place l.name.length l.end l.fn.so_far.value l.initial.table l.fn.so_far.step ≡ more_bits l.text l.name.place l.name.length (l.end - l.counter) l.all.value l.table l.all.step)
