-- `token::bits::bits_token` meets its contract. Assumes nothing.
use mathlib.Core.Path.{◌∙◌}
use borrow.Author.Tests.{lt-ltb, le-ltb, eq-eqb, ne_eqb}
use Rattle.token.specs.Scan.{is_bit, bad_token, bits_token}
use Rattle.token.proofs.Places.{bits_is}
use Rattle.token.proofs.bits.bits_token.Goals as goal
use Rattle.token.proofs.bits.bits_token.Goals.{else-start-end-via-then-start-end+else-byte_at-eq39, else-start-end-via-else-start-end}

pub returns-then-byte_at-eq39 : goal.returns-then-byte_at-eq39
unfolding bits_token
returns-then-byte_at-eq39 c =
    rw (bits_is _ _ c.requires, ← c.run_end-end.ensures is_bit (λ b told e. e), ← c.byte_at.ensures)
    (rw (lt-ltb _ _ c.if-start-end.true, eq-eqb _ 39 c.if-byte_at-eq39.true, bits_token))

pub returns : goal.returns
unfolding bad_token bits_token
returns c =
    c.bad.ensures
    ∙ rw (bits_is _ _ c.requires, ← c.run_end-end.ensures is_bit (λ b told e. e))
    (elim c.else-start-end.branch [
      | else-start-end-via-then-start-end+else-byte_at-eq39 w ↦
          rw (← w.byte_at.ensures) (rw (lt-ltb _ _ w.if-start-end.true, ne_eqb _ 39 w.if-byte_at-eq39.false, bits_token))
      | else-start-end-via-else-start-end w ↦ rw (le-ltb _ _ w.if-start-end.false, bits_token)
    ])
