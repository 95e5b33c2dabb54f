-- `token::name::word` meets its contract: the one word that has the name's slot decides. Assumes nothing.
use mathlib.Core.Path.{refl, ◌∙◌}
use native.Mathlib.Omega.{arith}
use Rattle.token.proofs.Below.{none_below, below-some, below-none}
use Rattle.token.proofs.Slots.{other_word, word-told, empty-word}
use Rattle.token.proofs.name.word.Goals as goal

pub returns-then-place-end : goal.returns-then-place-end
returns-then-place-end c = none_below 29 _ (let none = empty-word _ _ c.args.text.now c.if-place-end.true in omega (arith, none))

pub returns-in_err-word : goal.returns-in_err-word
returns-in_err-word c =
    let none = other_word _ _ _ c.slot.ensures refl (λ h. absurd (omega (arith, h, below-none 29 _ c.in_err-word.ensures))) in
    c.from_residual.ensures ∙ none_below 29 _ (omega (arith, none))

pub returns : goal.returns
returns c =
    let some = below-some 29 _ c.in_ok-word.ensures in
    c.then_some.ensures ∙ word-told _ _ _ c.slot.ensures some.1 (omega (arith, some.0, some.1)) _ c.is_word.ensures
