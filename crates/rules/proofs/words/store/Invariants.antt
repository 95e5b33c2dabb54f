-- `rules::words::store` meets its contract.
use Prim.Native.Nat.{◌+◌}
use mathlib.Core.Path.{◌≡◌}
use lib.ListN.{drop}
use Rattle.rules.specs.Words.{written}
use Rattle.rules.proofs.words.store.Given as goal

abbrev pub invariant-loop-k : goal.invariant-loop-k
invariant-loop-k l = written l.initial.table l.at l.words ≡ written l.table (l.at + l.k) (drop l.k l.words)
