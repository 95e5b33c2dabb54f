-- `rules::mask::elements_of` meets its contract.
use Prim.Native.Nat.{ℕ, ◌-◌}
use mathlib.Core.Path.{◌∙◌, ap}
use borrow.Author.Rules.{rules}
use lib.ListN.{get_or}
use Rattle.bits.specs.Bits.{number_of}
use Rattle.rules.specs.Mask.{elements}
use Rattle.rules.proofs.mask.elements_of.Goals as goal

pub returns : goal.returns
unfolding elements
returns g c = λ p same.
    let a = c.args in
    c.number_of-number.ensures.is (λ (b : ℕ). p (get_or a.mask.now (a.width - b) 0)) (λ b on k. search (rules, same))
    ∙ ap (λ (n : ℕ). number_of n (λ b. p (get_or a.mask.now (a.width - b) 0))) c.bits_held.ensures.is
