-- `details::places::line_start` meets its contract.
use Rattle.std.proofs.Common.{◌≡◌}
use Rattle.details.specs.Places.{line_start}
use Rattle.details.proofs.places.line_start.Given as goal

abbrev pub invariant-loop-before : goal.invariant-loop-before
invariant-loop-before l = line_start l.text l.place ≡ line_start l.text l.before
