-- `station::confirmation::confirm_read` meets its contract.
use native.Mathlib.Omega.{arith}
use Rattle.station.proofs.CallLaws.{few-steps, gathered-fits}
use Rattle.station.proofs.confirmation.confirm_read.Goals as goal

pub overflow_add-step : goal.overflow_add-step
overflow_add-step c = omega (arith, few-steps c.args.variable.now.reads c.requires)

pub next_read-requires : goal.next_read-requires
next_read-requires c = rw c.gather.ensures (gathered-fits _ _ _ _ _)
