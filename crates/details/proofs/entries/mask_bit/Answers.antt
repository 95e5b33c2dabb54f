use mathlib.Core.Path.{ap, ◌∙◌}
use Rattle.bits.specs.Bits.{bit}
use Rattle.details.proofs.entries.mask_bit.Goals as goal

pub returns : goal.returns
returns c = c.bit_of.ensures ∙ ap (bit c.args.b) c.register_word.ensures.is
