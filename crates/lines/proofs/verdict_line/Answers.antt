-- `lines::verdict_line` meets its contract.
use mathlib.Core.Path.{sym, ap}
use Rattle.lines.proofs.LineLaws.{put_as}
use Rattle.lines.specs.Lines.{line_of}
use Rattle.lines.proofs.verdict_line.Goals as goal

pub returns-in-Ok : goal.returns-in-Ok
returns-in-Ok c = put_as (ap line_of (sym c.in-Ok.is)) c.accepted_line.ensures

pub returns-in-Err : goal.returns-in-Err
returns-in-Err c = put_as (ap line_of (sym c.in-Err.is)) c.refused_line.ensures
