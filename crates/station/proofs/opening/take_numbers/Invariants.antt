-- `station::opening::take_numbers` meets its contract.
use Rattle.std.proofs.Common.{◌≡◌, ℕ, ◌<◌, get_or}
use Rattle.station.specs.Station.{power_of}
use Rattle.station.proofs.opening.take_numbers.Given as goal

abbrev pub invariant-loop-r : goal.invariant-loop-r
invariant-loop-r l = (k : ℕ) → k < l.r → get_or l.held k 0 ≡ power_of l.registers l.power k
