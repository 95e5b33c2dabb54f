-- `token::number::digits` meets its contract: wherever the loop stands, the value and the end of the digits are what
-- they are from the start, but for the size of a value that is too large. Assumes nothing.
use mathlib.Core.Bool.{true, false}
use Prim.Native.Nat.{◌+◌, ◌*◌}
use mathlib.Core.Path.{◌≡◌, refl, sym, ap, ◌∙◌}
use native.Mathlib.Omega.{arith}
use lib.ListN.{get_or}
use borrow.Author.Tests.{lt-ltb, le-ltb}
use Rattle.token.specs.Number.{digit_of, is_digit}
use Rattle.token.proofs.Below.{below-some, below-none}
use Rattle.token.proofs.RunSteps.{run-goes_on, run-stops, run-over-end}
use Rattle.token.proofs.Numbers.{cap, cap-inside, value-ends, value-goes_on, value-stops}
use Rattle.token.proofs.number.digits.Goals as goal

pub returns-in_default : goal.returns-in_default
unfolding is_digit
returns-in_default c =
    let x = c.args in
    let here = c.loop-i in
    let inside = c.loop-i-test.true in
    let no_digit : is_digit x.radix (get_or x.text.now here.i 0) ≡ false = le-ltb _ _ (below-none x.radix _ c.in_default.ensures) in
    let kept : cap here.value ≡ here.value = omega arith in record {
      value = sym (here.invariant.1 ∙ ap cap (value-stops x.radix x.text.now here.i here.value inside no_digit) ∙ kept);
      end = sym (here.invariant.2 ∙ run-stops _ _ _ inside no_digit);
    }

pub loop-i-preserved : goal.loop-i-preserved
unfolding is_digit
loop-i-preserved c =
    let x = c.args in
    let here = c.loop-i in
    let inside = c.loop-i-test.true in
    let some = below-some x.radix _ c.in-Some.ensures in
    let next : c.min-value.result ≡ cap (here.value * x.radix + digit_of (get_or x.text.now here.i 0)) =
    c.min-value.ensures ∙ rw (c.from.ensures, c.from-in-loop-i.ensures, some.1) (omega arith) in
    let a-digit : is_digit x.radix (get_or x.text.now here.i 0) ≡ true = lt-ltb _ _ some.0 in (
      omega arith,
      here.invariant.1
          ∙ ap cap (value-goes_on x.radix x.text.now here.i here.value inside a-digit)
          ∙ sym (cap-inside x.radix (omega arith) _ _)
          ∙ rw next,
      here.invariant.2 ∙ run-goes_on _ _ _ inside a-digit,
    )

pub returns : goal.returns
returns c =
    let x = c.args in
    let here = c.loop-i in
    let kept : cap here.value ≡ here.value = omega arith in record {
      value = sym (here.invariant.1 ∙ ap cap (value-ends x.radix x.text.now here.i here.value c.loop-i-test.false) ∙ kept);
      end = run-over-end _ _ _ here.invariant.2 _ _ refl c.loop-i-test.false here.auto.i-end c.max.ensures;
    }
