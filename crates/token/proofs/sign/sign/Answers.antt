-- `token::sign::sign` meets its contract. Assumes nothing.
use mathlib.Core.Path.{◌∙◌}
use Rattle.token.specs.Sign.{longest_sign}
use Rattle.token.proofs.Below.{below-some, below-none}
use Rattle.token.proofs.Signs.{sign-longer, sign-other}
use Rattle.token.proofs.sign.sign.Goals as goal

pub returns-in-Some : goal.returns-in-Some
unfolding longest_sign
returns-in-Some c = let some = below-some 9 _ c.in-Some.ensures in sign-longer _ _ some.0 some.1

pub returns-in-None : goal.returns-in-None
unfolding longest_sign
returns-in-None c = c.then_some.ensures ∙ sign-other _ _ (below-none 9 _ c.in-None.ensures) c.is_sign_byte.ensures
