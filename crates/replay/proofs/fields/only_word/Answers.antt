-- `replay::fields::only_word` meets its contract. Assumes nothing.
use Rattle.replay.proofs.FieldLaws.{only_so, only-not}
use Rattle.replay.proofs.fields.only_word.Goals as goal

pub returns-then-is_empty-is_bare : goal.returns-then-is_empty-is_bare
returns-then-is_empty-is_bare c = only_so _ _ c.word-first.ensures _ c.rest.ensures (rw (c.is_empty.ensures, c.is_bare.ensures) at c.if-is_empty-is_bare.true)

pub returns-else-is_empty-is_bare : goal.returns-else-is_empty-is_bare
returns-else-is_empty-is_bare c = only-not _ _ c.word-first.ensures _ c.rest.ensures (rw (c.is_empty.ensures, c.is_bare.ensures) at c.if-is_empty-is_bare.false)
