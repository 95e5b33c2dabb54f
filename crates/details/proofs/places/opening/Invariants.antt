-- `details::places::opening` meets its contract.
use Rattle.std.proofs.Common.{◌≡◌, ◌-◌}
use Rattle.details.specs.Places.{opening_of, opening_from}
use Rattle.details.proofs.places.opening.Given as goal

abbrev pub invariant-loop : goal.invariant-loop
invariant-loop l = opening_of l.text l.place ≡ opening_from l.text l.place (l.end - l.counter) l.at l.last
