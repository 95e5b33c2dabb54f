-- `loader::heading::parameters_of` meets its contract.
use mathlib.Core.Path.{refl}
use Rattle.loader.proofs.LoadSteps.{parameters-are}
use Rattle.loader.proofs.heading.parameters_of.Goals as goal

pub returns : goal.returns
returns c = parameters-are _ _ _ _ c.more_parameters-all.result _ _ _ _ _ c.head_next-head.ensures c.parameter_next-one.ensures c.more_parameters-all.ensures c.fixed_after-step.ensures refl
