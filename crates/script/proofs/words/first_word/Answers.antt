-- `script::words::first_word` meets its contract. Assumes nothing.
use borrow.Author.Rules.{rules}
use mathlib.Core.Path.{◌≡◌}
use Rattle.script.specs.Words.{word_start, word_end}
use Rattle.script.proofs.WordLaws.{word-whole, word-inside}
use Rattle.script.proofs.words.first_word.Goals as goal

pub returns : goal.returns
returns c =
    let starts : c.run_end-start.result ≡ word_start c.args.line.now = search rules in
    let ends : c.run_end.result ≡ word_end c.args.line.now = search rules in
    record { starts = starts; ends = ends; ordered = rw (starts, ends) (word-whole _); inside = rw ends (word-inside _) }
