-- `frames::length_of` meets its contract. Assumes nothing.
use Rattle.frames.proofs.FrameLaws.{headed-so, headed-not}
use Rattle.frames.proofs.length_of.Goals as goal

pub returns-then-is-is_empty : goal.returns-then-is-is_empty
returns-then-is-is_empty c = headed-so _ _ _ _ _ _ _ c.rest-tail.ensures c.rest.ensures c.word-third.ensures c.word.ensures c.is.ensures _ _ c.word-then-is-is_empty.ensures c.number_of.ensures (rw c.is_empty.ensures at c.if-is-is_empty.true)

pub returns-else-is-is_empty : goal.returns-else-is-is_empty
returns-else-is-is_empty c = headed-not _ _ _ _ _ _ _ c.rest-tail.ensures c.rest.ensures c.word-third.ensures c.word.ensures c.is.ensures (rw c.is_empty.ensures at c.if-is-is_empty.false)
