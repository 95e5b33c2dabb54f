-- `details::search::clashes_with` meets its contract.
use Rattle.details.proofs.search.clashes_with.Goals as goal

pub returns : goal.returns
returns c = rw (c.register_part-earlier.ensures.is, c.register_part.ensures.is, c.register_word-port.ensures.is, c.register_word-offset.ensures.is, c.number.ensures.value) at c.clashes.ensures
