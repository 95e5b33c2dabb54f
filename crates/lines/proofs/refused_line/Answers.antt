-- `lines::refused_line` meets its contract.
use Rattle.lines.specs.Lines.{line_of}
use Rattle.lines.proofs.LineLaws.{put_both}
use Rattle.lines.proofs.refused_line.Goals as goal

pub returns : goal.returns
unfolding line_of
returns c = put_both c.put_numbers-two.ensures.stored c.put_bytes.ensures
