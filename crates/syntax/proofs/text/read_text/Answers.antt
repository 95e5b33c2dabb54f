use Rattle.syntax.specs.Text.{moved_to, bare, outlined}
use Rattle.syntax.proofs.TextSteps.{text-is}
use Rattle.syntax.proofs.text.read_text.Goals as goal

pub returns : goal.returns
unfolding moved_to bare outlined
returns c = text-is _ c.parameters_of-parameters.ensures c.declarations_of-all.ensures c.fixed_after-end.ensures
