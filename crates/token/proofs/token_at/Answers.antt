-- `token::token_at` meets its contract: the first byte decides which token is read. Assumes nothing.
use mathlib.Core.Path.{sym, ◌∙◌}
use borrow.Author.Tests.{eq-eqb, ne_eqb}
use Rattle.token.specs.Bytes.{within}
use Rattle.token.specs.Scan.{token_by}
use Rattle.token.proofs.Places.{token-is, token-ends}
use Rattle.token.proofs.token_at.Goals as goal

pub returns-then-length-place : goal.returns-then-length-place
returns-then-length-place c = sym (token-ends _ _ c.if-length-place.true)

pub returns-then-is_letter : goal.returns-then-is_letter
unfolding token_by
returns-then-is_letter c =
    rw (token-is _ _ c.if-length-place.false, sym c.is_letter.ensures ∙ c.if-is_letter.true, token_by) c.name_token.ensures

pub returns-then-is_ascii_digit : goal.returns-then-is_ascii_digit
unfolding token_by within
returns-then-is_ascii_digit c =
    rw (
      token-is _ _ c.if-length-place.false,
      sym c.is_letter.ensures ∙ c.if-is_letter.false,
      sym c.is_ascii_digit.ensures.value ∙ c.if-is_ascii_digit.true,
      token_by,
    )
    c.number_token.ensures

pub returns-then-b-eq39 : goal.returns-then-b-eq39
unfolding token_by within
returns-then-b-eq39 c =
    rw (
      token-is _ _ c.if-length-place.false,
      sym c.is_letter.ensures ∙ c.if-is_letter.false,
      sym c.is_ascii_digit.ensures.value ∙ c.if-is_ascii_digit.false,
      eq-eqb _ 39 c.if-b-eq39.true,
      token_by,
    )
    c.bits_token.ensures

pub returns-else-b-eq39 : goal.returns-else-b-eq39
unfolding token_by within
returns-else-b-eq39 c =
    rw (
      token-is _ _ c.if-length-place.false,
      sym c.is_letter.ensures ∙ c.if-is_letter.false,
      sym c.is_ascii_digit.ensures.value ∙ c.if-is_ascii_digit.false,
      ne_eqb _ 39 c.if-b-eq39.false,
      token_by,
    )
    c.sign_token.ensures
