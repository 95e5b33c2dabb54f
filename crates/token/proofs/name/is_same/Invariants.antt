use mathlib.Core.Path.{◌≡◌}
use lib.ListN.{drop}
use Rattle.token.specs.Bytes.{same}
use Rattle.token.proofs.name.is_same.Given as goal

abbrev pub invariant-loop-i : goal.invariant-loop-i
invariant-loop-i l = same l.name l.word ≡ same (drop l.i l.name) (drop l.i l.word)
