-- `abi::words::write` meets its contract: the words told so far are written.
use mathlib.Core.Path.{◌≡◌}
use lib.ListN.{take}
use Rattle.abi.specs.Words.{written}
use Rattle.abi.proofs.words.write.Given as goal

abbrev pub invariant-loop-i : goal.invariant-loop-i
invariant-loop-i g l = l.words ≡ written (take l.i l.told) l.initial.words
