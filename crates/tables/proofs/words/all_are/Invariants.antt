-- `tables::words::all_are` meets its contract: what is gathered so far is the definition at the counter.
use mathlib.Core.Path.{◌≡◌}
use lib.ListN.{take}
use Rattle.std.specs.List.{list_all}
use Rattle.tables.proofs.words.all_are.Given as goal

abbrev pub invariant-loop-x : goal.invariant-loop-x
invariant-loop-x g l = l.ok ≡ list_all (λ x. g.T.PartialEq.eq x l.item) (take l.x-index l.items)
