-- `tables::words::blank` meets its contract: the words of a run that is all 0 are zeros.
use mathlib.Core.Path.{◌∙◌}
use Rattle.tables.proofs.ZeroLaws.{zeros-all}
use Rattle.tables.proofs.words.blank.Goals as goal

pub returns : goal.returns
returns c = c.run_is.ensures ∙ zeros-all c.args.table.now c.args.from c.args.n
