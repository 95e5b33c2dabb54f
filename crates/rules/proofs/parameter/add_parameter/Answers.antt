-- `rules::parameter::add_parameter` meets its contract.
use mathlib.Core.List.{[], ◌∷◌}
use mathlib.Core.Path.{◌∙◌}
use Rattle.rules.specs.Parameter.{parameter_entry}
use Rattle.rules.proofs.WordLaws.{appended-two}
use Rattle.rules.proofs.parameter.add_parameter.Goals as goal

pub returns : goal.returns
unfolding parameter_entry
returns c = appended-two 36 _ (c.narrow.result ∷ c.narrow-2.result ∷ c.args.parameter.width ∷ c.narrow-3.result ∷ []) _ c.word-count.ensures.is c.store.ensures c.store-2.ensures c.count_one.ensures ∙ rw (c.narrow.ensures, c.narrow-2.ensures, c.narrow-3.ensures)
