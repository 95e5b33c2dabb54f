-- `lines::put::put_number` meets its contract.
use native.Mathlib.Omega.{arith}
use Rattle.lines.proofs.LineLaws.{put_both, decimal-short}
use Rattle.lines.specs.Lines.{numbered}
use Rattle.lines.proofs.put.put_number.Goals as goal

pub returns : goal.returns
unfolding numbered
returns c = record {
  stored = put_both c.put_bytes-behind.ensures c.put_decimal.ensures;
  near = omega (arith, c.put_bytes-behind.ensures.behind, c.put_decimal.ensures.behind, decimal-short c.args.number);
}
