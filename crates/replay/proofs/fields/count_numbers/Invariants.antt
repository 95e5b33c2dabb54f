-- `replay::fields::count_numbers` meets its contract. Assumes nothing.
use mathlib.Core.Path.{◌≡◌}
use Prim.Native.Nat.{◌+◌, ◌≤◌}
use lib.ListN.{length}
use Rattle.script.specs.Words.{words_of}
use Rattle.replay.specs.Fields.{count_from}
use Rattle.replay.proofs.fields.count_numbers.Given as goal

abbrev pub invariant-loop-more : goal.invariant-loop-more
invariant-loop-more l = (count_from (words_of l.tail) 0 ≡ count_from (words_of l.more) l.count) × (l.count + length l.more ≤ length l.tail)

abbrev pub decreases-loop-more : goal.decreases-loop-more
decreases-loop-more l = length l.more
