use lib.Ieee.{of_bits}
use Rattle.units.proofs.PatternLaws.{nan_pattern, number-pattern}
use Rattle.units.proofs.patterns.float_of.Goals as goal

pub returns-then-has_nan : goal.returns-then-has_nan
unfolding of_bits
returns-then-has_nan c = nan_pattern _ c.has_nan.ensures c.if-has_nan.true

pub float_from_bits-result : goal.float_from_bits-result
float_from_bits-result c = number-pattern _ c.has_nan.ensures c.if-has_nan.false
