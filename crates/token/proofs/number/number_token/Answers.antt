-- `token::number::number_token` meets its contract. Assumes nothing.
use mathlib.Core.Path.{refl, sym, ◌∙◌}
use native.Mathlib.Nat.{add-zero}
use native.Mathlib.Omega.{arith}
use lib.ListN.{drop}
use Rattle.token.proofs.Numbers.{number_is, hexadecimal, octal, decimal}
use Rattle.token.proofs.number.number_token.Goals as goal
use Rattle.token.proofs.number.number_token.Goals.{then-prefixed, else-prefixed+then-prefixed-2, else-prefixed+else-prefixed-2}

pub returns : goal.returns
returns c =
    let x = c.args in
    c.checked.ensures
    ∙ elim c.if-prefixed.branch [
      | then-prefixed w ↦
          rw (w.digits-is, w.digits-digits.ensures.value, w.digits-digits.ensures.end)
          (number_is x.text.now x.place _ _ _ (omega arith) refl (hexadecimal (drop x.place x.text.now) (sym c.prefixed.ensures ∙ w.if-prefixed.true)))
      | else-prefixed+then-prefixed-2 w ↦
          rw (w.digits-is, w.digits.ensures.value, w.digits.ensures.end)
          (number_is x.text.now x.place _ _ _ (omega arith) refl
          (octal (drop x.place x.text.now) (sym c.prefixed.ensures ∙ w.if-prefixed.false) (sym w.prefixed-else-prefixed.ensures ∙ w.if-prefixed-2.true)))
      | else-prefixed+else-prefixed-2 w ↦
          rw (w.digits-is, w.digits-else-prefixed-2.ensures.value, w.digits-else-prefixed-2.ensures.end)
          (number_is x.text.now x.place _ _ _ (omega arith) (add-zero _)
          (decimal (drop x.place x.text.now) (sym c.prefixed.ensures ∙ w.if-prefixed.false) (sym w.prefixed-else-prefixed.ensures ∙ w.if-prefixed-2.false)))
    ]
