use Rattle.std.proofs.Common.{◌≡◌, drop}
use Rattle.script.specs.Numbers.{figures, figures_from}
use Rattle.script.proofs.numbers.digits.Given as goal

abbrev pub invariant-loop-b : goal.invariant-loop-b
invariant-loop-b l = figures l.radix l.word ≡ figures_from l.radix (drop l.b-index l.word) l.value
