-- The reader of expressions agrees with the count of sizes: what it may still open and what the count holds open come
-- to sixteen together. Assumes nothing.
use Prim.Native.Nat.{ℕ, zero, suc, ◌+◌, ◌-◌, ◌<◌}
use native.Mathlib.Omega.{arith}
use mathlib.Core.Path.{◌≡◌, refl, sym, ap, ◌∙◌, subst}
use mathlib.Core.Bool.{Bool, true, false, ◌||◌, or-true, cond}
use mathlib.Core.Logic.{◌⊎◌, inl, inr}
use mathlib.Core.List.{List, [], ◌∷◌}
use mathlib.Core.Option.{Option}
use lib.Dec.{eqb, leb}
use lib.ListN.{length}
use borrow.Author.Tests.{eqb-true, eq-eqb, le-leb, lt-leb}
use Rattle.token.specs.declared.Token.{Token}
use Rattle.token.specs.declared.Token.TheVariants.{Name, Word, Number, Bits, Sign, End, Bad as NoToken}
use Rattle.token.specs.Scan.{scan_at}
use Rattle.token.specs.Kind.{kind_of, sign_of}
use Rattle.expression.specs.Value.{Worth}
use Rattle.expression.specs.Expression.{Outcome}
use Rattle.expression.specs.Expression.{Opening, Literal, Minus, Paren, Nothing}
use Rattle.expression.specs.Expression.{operator_of, joint_of, opening_of, operand_at, chain_at, rest_at, expression_at}
use Rattle.expression.specs.declared.Operator.{Operator}
use Rattle.expression.specs.declared.Operator.TheVariants.{Sum, Difference, Product, Quotient, Remainder}
use Rattle.expression.proofs.Joints.{joint-is}
use Rattle.expression.proofs.Laws.{operand-literal, operand-nothing, operand-deep, operand-minus, operand-paren, chain-operand, chain_first, rest_end, rest-refusal, rest_more, rest-ahead}
use Rattle.syntax.specs.Step.{Step}
use Rattle.std.specs.Prelude.{Option as Perhaps, Some, None, Ok, Err}
use Rattle.syntax.specs.Offset.{step_in, expression_after}
use Rattle.syntax.specs.Sizes.{Encloser, parenthesis, minus, register, operand, ended, closed, asks_operand, onward, passes_at, Tally, tallied, long_name, too_much}
use Rattle.syntax.proofs.ExpressionFollows.{Matches, opening-kind, refused-alike, negated-step, closed-step}
use Rattle.syntax.proofs.LoopSteps.{along}
use Rattle.syntax.proofs.Tally.{Agrees, refused-agrees, agrees-unexpected, agrees-five, agrees-kind, agrees-tok, goes}

-- an operator is something
apart : {operator : Operator} → None ≡ Some operator → ⊥
apart e = let z : ◌≡◌ {A = ℕ} 0 1 = cc in omega arith

module _ (text : List ℕ) (w : Option ℕ) (registers variables : ℕ) where
  -- the count in an offset, behind an operand and before one
  abbrev behind : List Encloser → Tally
  behind o = record { registers = registers; variables = variables; spot = register o }

  abbrev before : List Encloser → Tally
  before o = record { registers = registers; variables = variables; spot = operand o }

  -- ---- operators

  operator-passes : (o : List Encloser) (at : ℕ) → (operator_of (sign_of (scan_at text at).token) ≡ None → ⊥) → Agrees text w (behind o) (Ok at) → Agrees text w (before o) (Ok (scan_at text at).next)
  unfolding operator_of tallied too_much passes_at onward asks_operand
  operator-passes o at some a = by (scan_at text at).token refl some
    where
      by : (t : Token) → (scan_at text at).token ≡ t → (operator_of (sign_of t) ≡ None → ⊥) → Agrees text w (before o) (Ok (scan_at text at).next)
      by (Name p n) e some = absurd (some refl)
      by (Word p n) e some = absurd (some refl)
      by (Number p n) e some = absurd (some refl)
      by (Bits p n) e some = absurd (some refl)
      by (End p) e some = absurd (some refl)
      by (NoToken p) e some = absurd (some refl)
      by (Sign p s) e some = sign (eqb s 43) refl (eqb s 45) refl (eqb s 42) refl (eqb s 47) refl (eqb s 37) refl some
        where
          is : (k : ℕ) → eqb s k ≡ true → kind_of (scan_at text at).token ≡ 256 + k
          is k h = ap kind_of e ∙ ap (λ (n : ℕ). 256 + n) (eqb-true s k h)

          sign : (a : Bool) → eqb s 43 ≡ a → (b : Bool) → eqb s 45 ≡ b → (c : Bool) → eqb s 42 ≡ c → (d : Bool) → eqb s 47 ≡ d → (f : Bool) → eqb s 37 ≡ f
              → (cond a (Some Sum) (cond b (Some Difference) (cond c (Some Product) (cond d (Some Quotient) (cond f (Some Remainder) None)))) ≡ None → ⊥) → Agrees text w (before o) (Ok (scan_at text at).next)
          sign true ea b eb c ec d ed f ef some = agrees-kind text w 299 (behind o) refl refl refl at (is 43 ea) a
          sign false ea true eb c ec d ed f ef some = agrees-kind text w 301 (behind o) refl refl refl at (is 45 eb) a
          sign false ea false eb true ec d ed f ef some = agrees-kind text w 298 (behind o) refl refl refl at (is 42 ec) a
          sign false ea false eb false ec true ed f ef some = agrees-kind text w 303 (behind o) refl refl refl at (is 47 ed) a
          sign false ea false eb false ec false ed true ef some = agrees-kind text w 293 (behind o) refl refl refl at (is 37 ef) a
          sign false ea false eb false ec false ed false ef some = absurd (some refl)

  -- ---- a chain of operands, inside of what no operand ends

  -- a part of an expression agrees
  abbrev Part : List Encloser → (ℕ → Outcome) → Type 0
  Part o part = (at : ℕ) → Agrees text w (before o) (Ok at) → Agrees text w (behind o) (step_in (part at))

  module _ (depth level : ℕ) (some : level ≡ 0 → ⊥) (o : List Encloser) (parts : Part o (chain_at text depth (level - 1))) where
    abbrev Rest : Worth → ℕ → Type 0
    Rest x at = Agrees text w (behind o) (Ok at) → Agrees text w (behind o) (step_in (rest_at text depth level x at))

    turn : (x : Worth) (at : ℕ) → ((y : Worth) (end : ℕ) → at < end → at < length text → Rest y end) → Rest x at
    unfolding step_in
    turn x at rest a = by (joint_of level (sign_of (scan_at text at).token)) refl (chain_at text depth (level - 1) (scan_at text at).next) refl
      where
        part : {operator : Operator} → joint_of level (sign_of (scan_at text at).token) ≡ Some operator → Agrees text w (behind o) (step_in (chain_at text depth (level - 1) (scan_at text at).next))
        part e = parts (scan_at text at).next (operator-passes o at (λ z. apart (sym z ∙ joint-is level (sign_of (scan_at text at).token) e)) a)

        by : (j : Perhaps Operator) → joint_of level (sign_of (scan_at text at).token) ≡ j → (p : Outcome) → chain_at text depth (level - 1) (scan_at text at).next ≡ p → Agrees text w (behind o) (step_in (rest_at text depth level x at))
        by None e p q = rw (rest_end text depth level x at e) a
        by (Some operator) e (Err stop) q =
            rw (rest-refusal text depth level x at e q) (subst (λ (t : Outcome). Agrees text w (behind o) (step_in t)) q (part e))
        by (Some operator) e (Ok (right, end)) q =
            let ahead = rest-ahead text depth level x at e q in
            rw (rest_more text depth level x at e q) (rest _ end ahead.0 ahead.1 (subst (λ (t : Outcome). Agrees text w (behind o) (step_in t)) q (part e)))

    chain-agrees : Part o (chain_at text depth level)
    unfolding step_in
    chain-agrees at a = by (chain_at text depth (level - 1) at) refl
      where
        by : (p : Outcome) → chain_at text depth (level - 1) at ≡ p → Agrees text w (behind o) (step_in (chain_at text depth level at))
        by (Err stop) q = rw (chain_first text depth level at some, q) (subst (λ (t : Outcome). Agrees text w (behind o) (step_in t)) q (parts at a))
        by (Ok (x, end)) q =
            rw (chain_first text depth level at some, q)
            (along (length text) Rest turn x end (subst (λ (t : Outcome). Agrees text w (behind o) (step_in t)) q (parts at a)))

  -- both levels over an operand
  sum_agrees : (depth : ℕ) (o : List Encloser) → Part o (operand_at text depth) → Part o (chain_at text depth 2)
  sum_agrees depth o operands =
      chain-agrees depth 2 (λ z. omega arith) o (chain-agrees depth 1 (λ z. omega arith) o
      (λ at a. subst (λ (p : Outcome). Agrees text w (behind o) (step_in p)) (chain-operand text depth 0 at refl) (operands at a)))

  -- ---- an operand

  -- one that `depth` more may enclose
  abbrev Operand : ℕ → Type 0
  Operand depth = (o : List Encloser) → length o + depth ≡ 16 → (at : ℕ) → Agrees text w (before o) (Ok at) → Agrees text w (behind (ended o)) (step_in (operand_at text depth at))

  module _ (depth : ℕ) (o : List Encloser) (at : ℕ) (a : Agrees text w (before o) (Ok at)) where
    by-literal : {v : ℕ} → opening_of (scan_at text at).token ≡ Literal v → kind_of (scan_at text at).token ≡ 2 → Agrees text w (behind (ended o)) (step_in (operand_at text depth at))
    unfolding step_in tallied too_much passes_at onward
    by-literal q k = rw (operand-literal text depth at q) (agrees-kind text w 2 (before o) refl refl refl at k a)

    by-nothing : opening_of (scan_at text at).token ≡ Nothing → Agrees text w (behind (ended o)) (step_in (operand_at text depth at))
    by-nothing q = rw (operand-nothing text depth at q, refused-alike (scan_at text at).token) (agrees-unexpected text w (before o) (behind (ended o)) at a)

    -- one that sixteen enclose
    too-deep : length o ≡ 16 → depth ≡ 0 → (k : ℕ) → eqb 255 k ≡ false → kind_of (scan_at text at).token ≡ k → too_much (before o) k ≡ leb 16 (length o)
        → (opening_of (scan_at text at).token ≡ Minus) ⊎ (opening_of (scan_at text at).token ≡ Paren) → Agrees text w (behind (ended o)) (step_in (operand_at text depth at))
    unfolding step_in
    too-deep full z k end i much q =
        rw (operand-deep text depth at z q)
        (agrees-five text w (before o) (behind (ended o)) at (goes text w (scan_at text at).token k end (eq-eqb _ k i))
        (ap (λ (n : ℕ). long_name (scan_at text at).token || too_much (before o) n) i ∙ ap (λ (b : Bool). long_name (scan_at text at).token || b) (much ∙ le-leb 16 (length o) (omega arith)) ∙ or-true (long_name (scan_at text at).token)) a)

    module _ (d : ℕ) (is : depth ≡ suc d) (fits : length o + depth ≡ 16) (inner : Operand d) where
      not_full : leb 16 (length o) ≡ false
      not_full = lt-leb 16 (length o) (omega arith)

      by-minus : opening_of (scan_at text at).token ≡ Minus → kind_of (scan_at text at).token ≡ 301 → Agrees text w (behind (ended o)) (step_in (operand_at text depth at))
      unfolding ended tallied too_much passes_at onward
      by-minus q k =
          rw (operand-minus text depth at (λ z. omega arith) q, negated-step text (operand_at text (depth - 1) (scan_at text at).next))
          (subst (λ (n : ℕ). Agrees text w (behind (ended o)) (step_in (operand_at text n (scan_at text at).next))) (let z : d ≡ depth - 1 = omega arith in z)
          (inner (minus ∷ o) (omega arith) (scan_at text at).next (agrees-kind text w 301 (before o) refl refl not_full at k a)))

      by-paren : opening_of (scan_at text at).token ≡ Paren → kind_of (scan_at text at).token ≡ 296 → Agrees text w (behind (ended o)) (step_in (operand_at text depth at))
      unfolding ended closed asks_operand tallied too_much passes_at onward
      by-paren q k =
          rw (operand-paren text depth at (λ z. omega arith) q, closed-step text (chain_at text (depth - 1) 2 (scan_at text at).next))
          (agrees-tok text w 297 (behind (parenthesis ∷ o)) refl refl refl (step_in (chain_at text (depth - 1) 2 (scan_at text at).next))
          (subst (λ (n : ℕ). Agrees text w (behind (parenthesis ∷ o)) (step_in (chain_at text n 2 (scan_at text at).next))) (let z : d ≡ depth - 1 = omega arith in z)
          (sum_agrees d (parenthesis ∷ o) (inner (parenthesis ∷ o) (omega arith)) (scan_at text at).next (agrees-kind text w 296 (before o) refl refl not_full at k a))))

  operand_agrees : (depth : ℕ) → Operand depth
  unfolding too_much passes_at
  operand_agrees zero o fits at a = by (opening_of (scan_at text at).token) refl (opening-kind (scan_at text at).token)
    where
      by : (p : Opening) → opening_of (scan_at text at).token ≡ p → Matches (opening_of (scan_at text at).token) (kind_of (scan_at text at).token) → Agrees text w (behind (ended o)) (step_in (operand_at text 0 at))
      by p q m = of p q (subst (λ (p : Opening). Matches p (kind_of (scan_at text at).token)) q m)
        where
          of : (p : Opening) → opening_of (scan_at text at).token ≡ p → Matches p (kind_of (scan_at text at).token) → Agrees text w (behind (ended o)) (step_in (operand_at text 0 at))
          of (Literal v) q k = by-literal 0 o at a q k
          of Minus q k = too-deep 0 o at a (omega arith) refl 301 refl k refl (inl q)
          of Paren q k = too-deep 0 o at a (omega arith) refl 296 refl k refl (inr q)
          of Nothing q k = by-nothing 0 o at a q
  operand_agrees (suc d) o fits at a = by (operand_agrees d) (opening_of (scan_at text at).token) refl (opening-kind (scan_at text at).token)
    where
      by : Operand d → (p : Opening) → opening_of (scan_at text at).token ≡ p → Matches (opening_of (scan_at text at).token) (kind_of (scan_at text at).token) → Agrees text w (behind (ended o)) (step_in (operand_at text (suc d) at))
      by inner p q m = of p q (subst (λ (p : Opening). Matches p (kind_of (scan_at text at).token)) q m)
        where
          of : (p : Opening) → opening_of (scan_at text at).token ≡ p → Matches p (kind_of (scan_at text at).token) → Agrees text w (behind (ended o)) (step_in (operand_at text (suc d) at))
          of (Literal v) q k = by-literal (suc d) o at a q k
          of Minus q k = by-minus (suc d) o at a d refl fits inner q k
          of Paren q k = by-paren (suc d) o at a d refl fits inner q k
          of Nothing q k = by-nothing (suc d) o at a q

  -- THE EXPRESSION, behind its `@`
  pub agrees-expression : (s : Step) → Agrees text w (before []) s → Agrees text w (behind []) (expression_after text s)
  unfolding step_in expression_after expression_at ended
  agrees-expression (Ok at) a = sum_agrees 16 [] (operand_agrees 16 [] refl) at a
  agrees-expression (Err stop) a = refused-agrees text w (before []) (behind []) stop a
