-- `replay::fields::lay` meets its contract. Assumes nothing.
use mathlib.Core.Path.{◌≡◌}
use Rattle.script.specs.Words.{words_of}
use Rattle.replay.specs.Fields.{laid}
use Rattle.replay.proofs.fields.lay.Given as goal

abbrev pub invariant-loop-number : goal.invariant-loop-number
invariant-loop-number l = laid (words_of l.tail) 0 l.initial.numbers ≡ laid (words_of l.more) l.number-index l.numbers
