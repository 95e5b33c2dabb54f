-- `loader::known::mark_entry` meets its contract.
use Rattle.loader.proofs.KnownLaws.{entry-number, entry-last, marked-there}
use Rattle.loader.proofs.known.mark_entry.Goals as goal

pub returns-then-length-last : goal.returns-then-length-last
returns-then-length-last c =
    marked-there c.args.known.now c.mark.ensures
    (entry-last _ _ _ c.word-start.ensures.is c.word-length.ensures.is _ _ c.if-start-last.true c.if-length-last.true c.requires.number_value)

pub returns : goal.returns
returns c = marked-there c.args.known.now c.mark-2.ensures (entry-number _ _ _ c.word-start.ensures.is c.word-length.ensures.is c.mark_at.ensures)
