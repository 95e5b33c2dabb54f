-- `tables::marks::mark` meets its contract: what the calls promise gives the rest.
use lib.Seq.{set_out}
use mathlib.Core.Path.{sym}
use Rattle.tables.proofs.marks.mark.Goals as goal

pub returns-else-at-map : goal.returns-else-at-map
returns-else-at-map c = sym (set_out c.args.map.now c.args.at 1 c.if-at-map.false)
