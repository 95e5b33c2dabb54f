-- `station::confirmation::confirm_write` meets its contract.
use native.Mathlib.Omega.{arith}
use Rattle.station.proofs.CallLaws.{few-steps}
use Rattle.station.proofs.confirmation.confirm_write.Goals as goal

pub overflow_add-step : goal.overflow_add-step
overflow_add-step c = omega (arith, few-steps c.args.variable.now.writes c.requires.step_bound)
