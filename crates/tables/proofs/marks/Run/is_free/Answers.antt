-- `tables::marks::Run::is_free` meets its contract: a run is free exactly where it is zeros.
use mathlib.Core.Path.{◌∙◌}
use Rattle.tables.proofs.MarkLaws.{free-zeros}
use Rattle.tables.proofs.ZeroLaws.{zeros-all}
use Rattle.tables.proofs.marks.Run.is_free.Goals as goal

pub returns : goal.returns
returns c =
    let run = c.args.self in
    c.run_is.ensures ∙ zeros-all c.args.map.now run.from run.n ∙ free-zeros c.args.map.now run.from run.n
