-- `token::sign::sign_token` meets its contract. Assumes nothing.
use mathlib.Core.Path.{◌∙◌}
use native.Mathlib.Omega.{arith}
use borrow.Author.Tests.{ne_eqb}
use Rattle.token.specs.Scan.{sign_token, sign_here, sign_from}
use Rattle.token.proofs.Places.{end_is}
use Rattle.token.proofs.Below.{zero-none, some-sign}
use Rattle.token.proofs.Signs.{sign_here_lem, sign-short}
use Rattle.token.proofs.sign.sign_token.Goals as goal

pub returns-then-pair_at : goal.returns-then-pair_at
unfolding sign_from sign_here sign_token
returns-then-pair_at c = c.bad.ensures ∙ rw (end_is _ _ c.requires, ← c.if-pair_at.ensures, sign_here)

pub returns-in_default : goal.returns-in_default
unfolding sign_from sign_here sign_token
returns-in_default c =
    let none = zero-none _ c.in_default.ensures in
    c.bad-in_default.ensures
    ∙ rw (end_is _ _ c.requires, ← c.if-pair_at.ensures, sign_here)
    (rw (sign_here_lem _ _, ← c.byte_at.ensures, ← c.byte_at-2.ensures, ← c.byte_at-3.ensures, none))

pub overflow_add-result : goal.overflow_add-result
overflow_add-result c = omega (arith, sign-short c.in-Some.sign)

pub returns : goal.returns
unfolding sign_from sign_here sign_token
returns c =
    let some = some-sign _ c.in-Some.ensures in
    let is = some.1 in
    rw (end_is _ _ c.requires, ← c.if-pair_at.ensures, sign_here)
    (rw (sign_here_lem _ _, ← c.byte_at.ensures, ← c.byte_at-2.ensures, ← c.byte_at-3.ensures, ← is, c.sign_width.ensures)
    (rw (ne_eqb c.in-Some.sign 0 some.0, sign_token)))
