-- `details::search::is_undotted` meets its contract.
use mathlib.Core.Path.{ap, ◌∙◌}
use mathlib.Core.Bool.{Bool, ◌&&◌, not}
use lib.Dec.{leb}
use Rattle.bits.specs.Bits.{bit}
use Rattle.details.proofs.search.is_undotted.Goals as goal

pub returns : goal.returns
returns c = ap (λ (x : Bool). leb c.args.low c.args.b && leb c.args.b c.args.high && not x) (c.bit_of.ensures ∙ ap (bit c.args.b) c.register_word-dots.ensures.is)
