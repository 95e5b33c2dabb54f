-- `script::words::word` meets its contract. Assumes nothing.
use Rattle.script.specs.Words.{word_of}
use Rattle.script.proofs.words.word.Goals as goal

pub returns : goal.returns
unfolding word_of
returns c = rw (c.first_word-start.ensures.starts, c.first_word-start.ensures.ends)
