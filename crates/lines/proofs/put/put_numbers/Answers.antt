-- `lines::put::put_numbers` meets its contract.
use native.Mathlib.Omega.{arith}
use Rattle.lines.proofs.LineLaws.{put_both}
use Rattle.lines.proofs.put.put_numbers.Goals as goal

pub returns : goal.returns
returns c = record {
  stored = put_both c.put_number-behind.ensures.stored c.put_number.ensures.stored;
  near = omega (arith, c.put_number-behind.ensures.near, c.put_number.ensures.near);
}
