-- `loader::declarations::past` meets its contract.
use Rattle.loader.proofs.declarations.past.Goals as goal

pub returns : goal.returns
returns c = rw c.fixed_after-step.ensures
