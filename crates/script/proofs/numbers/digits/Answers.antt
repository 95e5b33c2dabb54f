-- `script::numbers::digits` meets its contract. Assumes nothing.
use native.Mathlib.Omega.{arith}
use borrow.Author.Rules.{rules}
use mathlib.Core.Path.{sym, ap, ◌∙◌}
use Rattle.script.specs.Numbers.{figures_from}
use Rattle.script.proofs.NumberLaws.{figures-none, figures-some, figures-end, figures-no-digit, figures-too_large, figures-on}
use Rattle.script.proofs.numbers.digits.Goals as goal

pub returns-then-is_empty : goal.returns-then-is_empty
returns-then-is_empty c = sym (figures-none _ _ (search rules))

pub loop-b-init : goal.loop-b-init
loop-b-init c = figures-some _ _ (search rules)

pub returns-in_err-digit : goal.returns-in_err-digit
returns-in_err-digit c =
    let none = rw c.from.ensures at c.in_err-digit.ensures.value in
    c.from_residual.ensures ∙ sym (c.loop-b.invariant ∙ figures-no-digit _ _ _ _ c.requires.1 c.loop-b-test.true none)

pub returns-in_err-checked_mul : goal.returns-in_err-checked_mul
returns-in_err-checked_mul c =
    let digit = rw c.from.ensures at c.in_ok-digit.ensures.value.0 in
    let large = rw c.from-in-loop-b.ensures at c.in_err-checked_mul.ensures in
    c.from_residual-in_err-checked_mul.ensures
    ∙ sym (c.loop-b.invariant ∙ figures-too_large _ _ _ _ c.requires.1 c.loop-b-test.true digit (λ small. large (omega arith)))

pub returns-in_err-value : goal.returns-in_err-value
returns-in_err-value c =
    let digit = rw c.from.ensures at c.in_ok-digit.ensures.value.0 in
    let is = rw c.from.ensures at c.in_ok-digit.ensures.value.1 in
    let times = rw c.from-in-loop-b.ensures at c.in_ok-checked_mul.ensures.1 in
    c.from_residual-in_err-value.ensures
    ∙ sym (c.loop-b.invariant ∙ figures-too_large _ _ _ _ c.requires.1 c.loop-b-test.true digit
    (λ small. c.in_err-value.ensures (omega (arith, c.from-in-loop-b-2.ensures, is, times, small))))

pub loop-b-preserved : goal.loop-b-preserved
loop-b-preserved c =
    let digit = rw c.from.ensures at c.in_ok-digit.ensures.value.0 in
    let is = rw c.from.ensures at c.in_ok-digit.ensures.value.1 in
    let times = rw c.from-in-loop-b.ensures at c.in_ok-checked_mul.ensures.1 in
    let sum = rw c.from-in-loop-b-2.ensures at c.in_ok-value.ensures in
    c.loop-b.invariant ∙ figures-on _ _ _ _ c.requires.1 c.loop-b-test.true digit (omega (arith, is, times, sum))
    ∙ ap (figures_from _ _) (omega (arith, is, times, sum))

pub returns : goal.returns
returns c = sym (c.loop-b.invariant ∙ figures-end _ _ _ _ c.loop-b-test.false)
