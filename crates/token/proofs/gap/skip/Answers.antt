-- `token::gap::skip` meets its contract. Each loop's invariant says that the gap from `at` ends where the gap from here
-- does, for a reader that stands between tokens, in a line comment or in a block comment. Each turn takes one step of
-- the definition. Assumes nothing.
use mathlib.Core.Bool.{false}
use mathlib.Core.List.{[], ◌∷◌}
use mathlib.Core.Path.{◌≡◌, refl, sym, ◌∙◌}
use native.Mathlib.Omega.{arith}
use lib.ListN.{get_or, drop}
use borrow.Author.Tests.{ne_eqb}
use Rattle.token.specs.Bytes.{begins}
use Rattle.token.specs.Gap.{is_blank, gap_from, gap, line, block}
use Rattle.token.proofs.GapSteps.{text-ends, gap-blank, gap-line, gap_block, gap-stops, line-goes_on, line-closes, block-goes_on, block-closes}
use Rattle.token.proofs.gap.skip.Goals as goal
use Rattle.token.proofs.gap.skip.Goals.{Else-is_blank, Else-pair_at}

-- past the first test: the byte here is no blank
plain :
    (c : Else-is_blank)
    → is_blank (get_or c.args.text.now c.between.i 0) ≡ false
plain c = sym c.is_blank.ensures ∙ c.if-is_blank.false

-- past the second: nor does a line comment open here
no_line :
    (c : Else-pair_at)
    → begins (47 ∷ 47 ∷ [])
    (drop c.between.i
    c.args.text.now)
    ≡ false
no_line c = sym c.pair_at.ensures ∙ c.if-pair_at.false

pub between-init : goal.between-init
between-init c = refl

pub between-preserved-then-is_blank : goal.between-preserved-then-is_blank
between-preserved-then-is_blank c =
    c.between.invariant
    ∙ gap-blank _ _ c.if-text-i.false (sym c.is_blank.ensures ∙ c.if-is_blank.true)

pub line-init : goal.line-init
line-init c = (
  omega arith,
  c.between.invariant
      ∙ gap-line _ _ c.if-text-i.false (plain (goal.at.line-init c).Else-is_blank) (sym c.pair_at.ensures ∙ c.if-pair_at.true),
)

pub between-preserved-then-text-i-eq10 : goal.between-preserved-then-text-i-eq10
between-preserved-then-text-i-eq10 c = c.line.invariant.1 ∙ line-closes _ _ c.if-text-i-2.false c.if-text-i-eq10.true

pub line-preserved : goal.line-preserved
line-preserved c = (
  omega arith,
  c.line.invariant.1 ∙ line-goes_on _ _ c.if-text-i-2.false (ne_eqb _ 10 c.if-text-i-eq10.false),
)

pub block-init : goal.block-init
block-init c = (
  omega arith,
  c.between.invariant
      ∙ gap_block _ _ c.if-text-i.false (plain (goal.at.block-init c).Else-is_blank) (no_line (goal.at.block-init c).Else-pair_at) (sym c.pair_at-else-pair_at.ensures ∙ c.if-pair_at-2.true),
)

pub block-preserved : goal.block-preserved
block-preserved c = (
  omega arith,
  c.block.invariant.1
      ∙ block-goes_on _ _ c.if-text-i-3.false _ (sym c.pair_at-in-block.ensures ∙ c.if-pair_at-3.false),
)

pub between-preserved : goal.between-preserved
between-preserved c =
    c.block.invariant.1
    ∙ block-closes _ _ c.if-text-i-3.false _ (sym c.pair_at-in-block.ensures ∙ c.if-pair_at-3.true)

pub returns-then-text-i : goal.returns-then-text-i
unfolding gap_from
returns-then-text-i c = sym (c.between.invariant ∙ text-ends _ gap _ c.if-text-i.true)

pub returns-then-text-i-2 : goal.returns-then-text-i-2
unfolding gap_from
returns-then-text-i-2 c = sym (c.line.invariant.1 ∙ text-ends _ line _ c.if-text-i-2.true)

pub returns-then-text-i-3 : goal.returns-then-text-i-3
unfolding gap_from
returns-then-text-i-3 c = sym (c.block.invariant.1 ∙ text-ends _ (block _) _ c.if-text-i-3.true)

pub returns-else-pair_at-2 : goal.returns-else-pair_at-2
returns-else-pair_at-2 c =
    sym
    (c.between.invariant
    ∙ gap-stops _ _ c.if-text-i.false (plain (goal.at.returns-else-pair_at-2 c).Else-is_blank) (no_line (goal.at.returns-else-pair_at-2 c).Else-pair_at) (sym c.pair_at-else-pair_at.ensures ∙ c.if-pair_at-2.false))
