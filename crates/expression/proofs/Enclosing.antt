-- The laws of an operand, at what the code knows of its first token and of the depth that is left. Assumes nothing.
use Rattle.std.proofs.Common.{◌≡◌, ℕ, ◌-◌, ◌≤◌, ◌⊎◌, List, sym, ap, ◌∙◌, pos, Option, Some, None, Result, Ok, Err, arith}
use Rattle.std.specs.Prelude.{SomeIff, ok_or}
use Rattle.token.specs.declared.Refusal.{Refusal}
use Rattle.token.specs.declared.Scanned.{Scanned}
use Rattle.token.specs.Scan.{scan_at}
use Rattle.token.specs.Fair.{place_of}
use Rattle.token.specs.Kind.{refusal_of}
use Rattle.expression.specs.Value.{within_range}
use Rattle.expression.specs.Expression.{Outcome, Opening, Literal, Minus, Paren, Nothing, opening_of, negated_read, closed_read, operand_at, chain_at}
use Rattle.expression.proofs.Laws.{operand-literal, operand-nothing, operand-deep, operand-minus, operand-paren}

module _ (text : List ℕ) (depth at : ℕ) {found : Scanned} (is : found ≡ scan_at text at) where
  opening-at : {opening : Opening} → opening_of found.token ≡ opening → opening_of (scan_at text at).token ≡ opening
  opening-at e = ap (λ (s : Scanned). opening_of s.token) (sym is) ∙ e

  pub literal-read : {value : ℕ} → opening_of found.token ≡ Literal value → ◌≡◌ {A = Outcome} (Ok (within_range (pos value), found.next)) (operand_at text depth at)
  literal-read {value} e = rw is (sym (operand-literal text depth at (opening-at e)))

  pub nothing-read : {refusal : Refusal} → opening_of found.token ≡ Nothing → refusal ≡ refusal_of found.token → Err refusal ≡ operand_at text depth at
  nothing-read e r = ap Err (r ∙ ap (λ (s : Scanned). refusal_of s.token) is) ∙ sym (operand-nothing text depth at (opening-at e))

  module _ {left : Option ℕ} (less : SomeIff left (1 ≤ depth) (depth - 1)) where
    none-left : left ≡ None → depth ≡ 0
    none-left e = let not : SomeIff None (1 ≤ depth) (depth - 1) = rw e at less in omega (arith, not)

    pub deep-read :
        {number place : ℕ} {refusal : Refusal} → (opening_of found.token ≡ Minus) ⊎ (opening_of found.token ≡ Paren) → left ≡ None
        → number ≡ 5 → place ≡ place_of found.token → Err refusal ≡ ok_or left (record { number = number; place = place })
        → Err refusal ≡ operand_at text depth at
    deep-read {number} {place} {refusal} o e n p r =
        let same : ◌≡◌ {A = Result ℕ Refusal} (Err refusal) (Err (record { number = number; place = place })) = rw e at r in
        let refused : refusal ≡ record { number = number; place = place } = cc in
        ap Err (refused ∙ rw (n, p, is)) ∙ sym (operand-deep text depth at (none-left e) (rw (← is) o))

    module _ {inner : ℕ} (some : left ≡ Some inner) where
      both : SomeIff (Some inner) (1 ≤ depth) (depth - 1)
      both = rw some at less

      inner-is : inner ≡ depth - 1
      inner-is = both.1

      below : depth ≡ 0 → ⊥
      below z = omega (arith, both.0)

      pub minus-read : {read : Outcome} → opening_of found.token ≡ Minus → read ≡ operand_at text inner found.next → negated_read read ≡ operand_at text depth at
      minus-read o e = rw (e, inner-is, is) (sym (operand-minus text depth at below (opening-at o)))

      pub paren-read : {read : Outcome} → opening_of found.token ≡ Paren → read ≡ closed_read text (chain_at text inner 2 found.next) → read ≡ operand_at text depth at
      paren-read o e = rw (e, inner-is, is) (sym (operand-paren text depth at below (opening-at o)))
