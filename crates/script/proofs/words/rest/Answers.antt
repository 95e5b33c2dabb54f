-- `script::words::rest` meets its contract. Assumes nothing.
use mathlib.Core.Path.{◌∙◌}
use Rattle.script.specs.Words.{rest_of}
use Rattle.script.proofs.WordLaws.{all_of}
use Rattle.script.proofs.words.rest.Goals as goal

pub returns : goal.returns
unfolding rest_of
returns c = all_of c.args.line.now c.first_word-end.result.1 ∙ rw c.first_word-end.ensures.ends
