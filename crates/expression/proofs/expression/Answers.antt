-- `expression::expression` meets its contract: one operand with no operator behind it is its own chain. Assumes
-- nothing.
use Rattle.std.proofs.Common.{◌≡◌, refl, sym, ap, ◌∙◌, Bool, true, false, not, Option, Some, None, is_some}
use Rattle.expression.specs.Expression.{operator_of, expression_at}
use Rattle.expression.specs.declared.Operator.{Operator}
use Rattle.token.specs.declared.Scanned.{Scanned}
use Rattle.token.specs.Kind.{sign_of}
use Rattle.expression.proofs.Laws.{handed, stays, goes_along, sum-read, sum-refused, sum-alone}
use Rattle.expression.proofs.expression.Goals as goal

none_is : (o : Option Operator) {none : Bool} → is_some o ≡ not none → none ≡ true → o ≡ None
none_is None e f = refl
none_is (Some operator) e f = absurd (let z : true ≡ false = e ∙ ap not f in cc)

pub returns-in_err-first : goal.returns-in_err-first
unfolding expression_at
returns-in_err-first c = handed _ c.from_residual.ensures ∙ sym c.in_err-first.was ∙ sum-refused _ _ _ c.operand.ensures c.in_err-first.was

pub returns-then-is_none : goal.returns-then-is_none
unfolding expression_at
returns-then-is_none c =
    let ends = sym (c.operator_in.ensures ∙ ap (λ (s : Scanned). operator_of (sign_of s.token)) c.scan_at-behind.ensures) ∙ none_is _ c.is_none.ensures c.if-is_none.true in
    sym c.in_ok-first.was ∙ sum-alone _ _ _ c.operand.ensures c.in_ok-first.was ends

pub returns-in_err-product : goal.returns-in_err-product
unfolding expression_at
returns-in_err-product c =
    handed _ c.from_residual-in_err-product.ensures
    ∙ sum-read _ _ _ c.operand.ensures (goes_along _ c.in_ok-first.was c.rest.ensures) (stays _ c.in_err-product.was refl)

pub returns : goal.returns
unfolding expression_at
returns c = sum-read _ _ _ c.operand.ensures (goes_along _ c.in_ok-first.was c.rest.ensures) (goes_along _ c.in_ok-product.was c.rest-2.ensures)
