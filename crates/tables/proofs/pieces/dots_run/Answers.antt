-- `tables::pieces::dots_run` meets its contract: bits that are all set make the greatest number.
use native.Mathlib.Omega.{arith}
use lib.Pow.{pow_pos}
use Rattle.tables.proofs.RunLaws.{dots-set}
use Rattle.tables.proofs.pieces.dots_run.Goals as goal

pub nonzero_rem-result : goal.nonzero_rem-result
nonzero_rem-result c = let q = c.power-limit.ensures in omega (arith, pow_pos c.args.n)

pub overflow_sub-result : goal.overflow_sub-result
overflow_sub-result c = let q = c.power-limit.ensures in omega (arith, pow_pos c.args.n)

pub returns : goal.returns
returns c = rw c.power-limit.ensures (dots-set c.args.dots c.args.low c.args.n)
