-- `rules::mask::mask_of` meets its contract.
use borrow.Author.Rules.{rules}
use borrow.Author.Tests.{tests}
use Rattle.rules.specs.Mask.{is_dot, is_fixed, is_one, mask_of}
use Rattle.rules.proofs.mask.mask_of.Goals as goal

pub returns : goal.returns
unfolding mask_of
returns c =
    rw (
      c.elements_of.ensures is_dot (λ byte on k. search (rules, tests)),
      c.elements_of-2.ensures is_fixed (λ byte on k. search (rules, tests)),
      c.elements_of-3.ensures is_one (λ byte on k. search (rules, tests)),
    )
