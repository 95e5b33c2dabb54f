-- `rules::register::bad_offset` meets its contract.
use native.Mathlib.Omega.{arith}
use Rattle.rules.specs.Register.{port_found}
use Rattle.rules.proofs.NameLaws.{index-small}
use Rattle.rules.proofs.register.bad_offset.Goals as goal

pub is_placed-placed-requires : goal.is_placed-placed-requires
unfolding port_found
is_placed-placed-requires c = rw (c.unwrap_or-index.ensures, c.port_found.ensures) (index-small _ _ _ _ (omega (arith, c.type_inv.parameters 0)))
