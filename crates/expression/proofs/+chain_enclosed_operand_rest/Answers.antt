-- The goals of the cycle {chain, enclosed, operand, rest}, by the laws of proofs/Laws.antt. Assumes nothing.
use Rattle.std.proofs.Common.{◌≡◌, ◌∙◌, sym, ap, refl, ℕ, ◌-◌, List, Option, Ok, inl, inr, arith}
use Rattle.expression.specs.Expression.{Outcome, Nothing, opening_of, joint_of, negated_read, closed_read, chain_at, rest_at}
use Rattle.expression.specs.Value.{Worth}
use Rattle.expression.specs.declared.Operator.{Operator}
use Rattle.token.specs.declared.Scanned.{Scanned}
use Rattle.token.specs.Kind.{sign_of}
use Rattle.expression.proofs.Tokens.{closes, opens-minus, opens-paren, opens-other, opens-nothing}
use Rattle.expression.proofs.Laws.{goes_along, stays, handed, closed-stays, chain-operand, chain-rest, rest_end, rest-refusal, rest_more, rest-ahead, sum-read, enclosed-refused, enclosed-alone}
use Rattle.expression.proofs.Range.{within-read}
use Rattle.expression.proofs.Enclosing.{literal-read, nothing-read, deep-read, minus-read, paren-read}
use Rattle.expression.proofs.+chain_enclosed_operand_rest.Goals as goal
use Rattle.expression.proofs.+chain_enclosed_operand_rest.Goals.{operand-in_default-sign-via-in-Some+in_default, operand-in_default-sign-via-in_default}

-- ---- chain

pub chain-returns-then-level-eq0 : goal.chain-returns-then-level-eq0
chain-returns-then-level-eq0 t c = c.operand.ensures ∙ chain-operand _ _ _ _ c.if-level-eq0.true

pub chain-returns-in_err-first : goal.chain-returns-in_err-first
chain-returns-in_err-first t c = chain-rest _ _ _ _ c.if-level-eq0.false c.chain.ensures (stays _ c.in_err-first.was (handed _ c.from_residual.ensures))

pub chain-returns : goal.chain-returns
chain-returns t c = chain-rest _ _ _ _ c.if-level-eq0.false c.chain.ensures (goes_along _ c.in_ok-first.was c.rest.ensures)

-- ---- enclosed

pub enclosed-returns-in_err-first : goal.enclosed-returns-in_err-first
enclosed-returns-in_err-first t c = handed _ c.from_residual.ensures ∙ sym c.in_err-first.was ∙ enclosed-refused _ _ _ c.operand.ensures c.in_err-first.was

pub enclosed-returns-then-eq : goal.enclosed-returns-then-eq
enclosed-returns-then-eq t c =
    enclosed-alone _ _ _ c.operand.ensures c.in_ok-first.was c.scan_at-found.ensures (closes _ c.sign.ensures c.if-eq.ensures)

pub enclosed-returns-in_err-product : goal.enclosed-returns-in_err-product
enclosed-returns-in_err-product t c =
    handed _ c.from_residual-in_err-product.ensures
    ∙ closed-stays _ (sum-read _ _ _ c.operand.ensures (goes_along _ c.in_ok-first.was c.rest.ensures) (stays _ c.in_err-product.was refl))

pub enclosed-returns-in_err-sum : goal.enclosed-returns-in_err-sum
enclosed-returns-in_err-sum t c =
    handed _ c.from_residual-in_err-sum.ensures
    ∙ closed-stays _
    (sum-read _ _ _ c.operand.ensures (goes_along _ c.in_ok-first.was c.rest.ensures)
    (goes_along _ c.in_ok-product.was (sym c.in_err-sum.was ∙ c.rest-2.ensures)))

pub enclosed-returns : goal.enclosed-returns
enclosed-returns t c =
    c.closed.ensures
    ∙ ap (closed_read _)
    (sum-read _ _ _ c.operand.ensures (goes_along _ c.in_ok-first.was c.rest.ensures)
    (goes_along _ c.in_ok-product.was (sym c.in_ok-sum.was ∙ c.rest-2.ensures)))

-- ---- operand

pub operand-returns-in-Number : goal.operand-returns-in-Number
operand-returns-in-Number t c =
    ap (λ (w : Worth). Ok (w, c.scan_at-found.result.next)) (c.ok.ensures.value ∙ within-read _ _ c.try_from.ensures)
    ∙ literal-read _ _ _ c.scan_at-found.ensures (ap opening_of c.in-Number.is)

pub operand-returns-in_err-deeper-in-Some-eq45 : goal.operand-returns-in_err-deeper-in-Some-eq45
operand-returns-in_err-deeper-in-Some-eq45 t c =
    let deep = c.in_err-deeper-in-Some-eq45.ensures in
    handed _ c.from_residual.ensures
    ∙ deep-read _ _ _ c.scan_at-found.ensures c.checked_sub.ensures (inl (opens-minus _ c.in-Some-eq45.ensures c.in-Some-eq45.field-0-test)) deep.ok_part c.number.ensures c.place.ensures deep.value

pub operand-returns-in_err-deeper-in-Some-eq40 : goal.operand-returns-in_err-deeper-in-Some-eq40
operand-returns-in_err-deeper-in-Some-eq40 t c =
    let deep = c.in_err-deeper-in-Some-eq40.ensures in
    handed _ c.from_residual-in_err-deeper-in-Some-eq40.ensures
    ∙ deep-read _ _ _ c.scan_at-found.ensures c.checked_sub.ensures (inr (opens-paren _ c.in-Some-eq40.ensures c.in-Some-eq40.field-0-test)) deep.ok_part c.number.ensures c.place.ensures deep.value

pub operand-returns-in_err-worth-in-Some-eq45 : goal.operand-returns-in_err-worth-in-Some-eq45
operand-returns-in_err-worth-in-Some-eq45 t c =
    handed _ c.from_residual-in_err-worth-in-Some-eq45.ensures
    ∙ ap negated_read (sym c.in_err-worth-in-Some-eq45.was)
    ∙ minus-read _ _ _ c.scan_at-found.ensures c.checked_sub.ensures c.in_ok-deeper-in-Some-eq45.ensures.ok_part (opens-minus _ c.in-Some-eq45.ensures c.in-Some-eq45.field-0-test) c.operand.ensures

pub operand-returns-in_ok-worth-in-Some-eq45 : goal.operand-returns-in_ok-worth-in-Some-eq45
operand-returns-in_ok-worth-in-Some-eq45 t c =
    ap (λ (w : Worth). Ok (w, c.in_ok-worth-in-Some-eq45.end)) c.applied.ensures
    ∙ ap negated_read (sym c.in_ok-worth-in-Some-eq45.was)
    ∙ minus-read _ _ _ c.scan_at-found.ensures c.checked_sub.ensures c.in_ok-deeper-in-Some-eq45.ensures.ok_part (opens-minus _ c.in-Some-eq45.ensures c.in-Some-eq45.field-0-test) c.operand.ensures

pub operand-returns-in_ok-deeper-in-Some-eq40 : goal.operand-returns-in_ok-deeper-in-Some-eq40
operand-returns-in_ok-deeper-in-Some-eq40 t c =
    paren-read _ _ _ c.scan_at-found.ensures c.checked_sub.ensures c.in_ok-deeper-in-Some-eq40.ensures.ok_part (opens-paren _ c.in-Some-eq40.ensures c.in-Some-eq40.field-0-test) c.enclosed.ensures

pub operand-returns-in_default-sign : goal.operand-returns-in_default-sign
operand-returns-in_default-sign t c =
    let opens : opening_of c.scan_at-found.result.token ≡ Nothing =
    elim c.in_default-sign.branch [
      | operand-in_default-sign-via-in-Some+in_default w ↦ opens-other _ w.in_default-sign.ensures w.in_default-sign.field-0-test.0.1 w.in_default-sign.field-0-test.1
      | operand-in_default-sign-via-in_default w ↦ opens-nothing _ c.in_default.not-Number (sym c.sign.ensures ∙ w.in_default-sign.is)
    ] in
    nothing-read _ _ _ c.scan_at-found.ensures opens c.refusal.ensures

-- ---- rest

-- what a turn finds of the operator, and of the part after it
module _ (text : List ℕ) (depth level : ℕ) {found seen : Scanned} (e : found ≡ seen) where
  joint-is : {joint is : Option Operator} → joint ≡ joint_of level (sign_of found.token) → joint ≡ is → joint_of level (sign_of seen.token) ≡ is
  joint-is j i = sym (j ∙ ap (λ (s : Scanned). joint_of level (sign_of s.token)) e) ∙ i

  part-is : {part is : Outcome} → part ≡ chain_at text depth (level - 1) found.next → part ≡ is → chain_at text depth (level - 1) seen.next ≡ is
  part-is p i = sym (p ∙ ap (λ (s : Scanned). chain_at text depth (level - 1) s.next) e) ∙ i

pub rest-returns-in_default : goal.rest-returns-in_default
rest-returns-in_default t c =
    sym (c.loop-operator.invariant ∙ rest_end _ _ _ _ _ (joint-is c.args.text.now c.args.depth _ c.scan_at-found.ensures c.joint_of.ensures c.in_default.is))

pub rest-returns-in_err-right : goal.rest-returns-in_err-right
rest-returns-in_err-right t c =
    let joins = joint-is c.args.text.now c.args.depth c.args.level c.scan_at-found.ensures c.joint_of.ensures c.in-Some.is in
    let part = part-is c.args.text.now c.args.depth c.args.level c.scan_at-found.ensures c.chain.ensures c.in_err-right.was in
    handed _ c.from_residual.ensures ∙ sym (c.loop-operator.invariant ∙ rest-refusal _ _ _ _ _ joins part)

pub rest-loop-operator-smaller : goal.rest-loop-operator-smaller
rest-loop-operator-smaller t c =
    let joins = joint-is c.args.text.now c.args.depth c.args.level c.scan_at-found.ensures c.joint_of.ensures c.in-Some.is in
    let part = part-is c.args.text.now c.args.depth c.args.level c.scan_at-found.ensures c.chain.ensures c.in_ok-right.was in
    let ahead = rest-ahead c.args.text.now c.args.depth c.args.level c.loop-operator.worth c.loop-operator.place joins part in
    omega (arith, ahead.0, ahead.1)

pub rest-loop-operator-preserved : goal.rest-loop-operator-preserved
rest-loop-operator-preserved t c =
    let joins = joint-is c.args.text.now c.args.depth c.args.level c.scan_at-found.ensures c.joint_of.ensures c.in-Some.is in
    let part = part-is c.args.text.now c.args.depth c.args.level c.scan_at-found.ensures c.chain.ensures c.in_ok-right.was in
    c.loop-operator.invariant
    ∙ rest_more _ _ _ _ _ joins part
    ∙ ap (λ (w : Worth). rest_at c.args.text.now c.args.depth c.args.level w c.in_ok-right.end) (sym c.applied-worth.ensures)
