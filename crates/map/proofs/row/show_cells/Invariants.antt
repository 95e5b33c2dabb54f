-- `map::row::show_cells` meets its contract.
use Rattle.std.proofs.Common.{◌-◌}
use Rattle.map.proofs.row.show_cells.Given as goal

abbrev pub decreases-loop-here : goal.decreases-loop-here
decreases-loop-here g l = l.here - l.lowest
