-- `lines::accepted_line` meets its contract.
use Rattle.lines.specs.Lines.{line_of}
use Rattle.lines.proofs.LineLaws.{put_both}
use Rattle.lines.proofs.accepted_line.Goals as goal

pub returns : goal.returns
unfolding line_of
returns c = put_both (put_both c.put_numbers-two.ensures.stored c.put_number-three.ensures.stored) c.put_bytes.ensures
