-- `lines::put::put_decimal` meets its contract.
use mathlib.Core.Path.{◌∙◌}
use Rattle.lines.proofs.LineLaws.{put_as, part_end}
use Rattle.lines.proofs.put.put_decimal.Goals as goal

pub returns : goal.returns
returns c = put_as (part_end c.spell-start.new.digits c.spell-start.result 20 c.spell-start.auto.digits ∙ c.spell-start.ensures.1) c.put_bytes.ensures
