-- `loader::known::declared_at` meets its contract.
use Rattle.loader.proofs.known.declared_at.Goals as goal

pub returns : goal.returns
returns c = rw c.mark_at.ensures
