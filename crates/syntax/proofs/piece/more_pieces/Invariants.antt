use Prim.Native.Nat.{◌-◌}
use mathlib.Core.Path.{◌≡◌}
use lib.ListN.{length}
use Rattle.syntax.specs.Piece.{more_pieces}
use Rattle.syntax.proofs.piece.more_pieces.Given as goal

abbrev pub invariant-loop : goal.invariant-loop
invariant-loop l = (length l.table ≡ length l.initial.table) × (more_pieces l.text l.end l.fn.so_far.value l.initial.table l.fn.so_far.step ≡ more_pieces l.text (l.end - l.counter) l.all.value l.table l.all.step)
