-- `rules::lists::resolve` meets its contract.
use mathlib.Core.Path.{◌≡◌}
use Rattle.rules.specs.Lists.{unknown_in, pieces_on}
use Rattle.rules.proofs.lists.resolve.Given as goal

abbrev pub invariant-loop-k : goal.invariant-loop-k
invariant-loop-k l = record {
  known : l.fault ≡ unknown_in l.text l.registers l.list l.k;
  stored : l.pieces ≡ pieces_on l.text l.registers l.list l.initial.pieces l.k;
}
