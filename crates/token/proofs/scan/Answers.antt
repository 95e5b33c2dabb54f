-- `token::scan` meets its contract. Assumes nothing.
use Rattle.token.proofs.Laws.{scan-past}
use Rattle.token.proofs.scan.Goals as goal

pub returns : goal.returns
returns c = rw (scan-past _ _, ← c.skip-place.ensures) c.token_at.ensures
