-- `details::places::line_start` meets its contract.
use native.Mathlib.Omega.{arith}
use mathlib.Core.Path.{sym, ◌∙◌}
use Rattle.details.proofs.PlaceLaws.{start-here, start_back, start_none}
use Rattle.details.proofs.places.line_start.Goals as goal

pub returns-then-breaks_at : goal.returns-then-breaks_at
returns-then-breaks_at c =
    record {
      is = start-here _ _ c.loop-before-test.true c.breaks_at.ensures c.if-breaks_at.true ∙ sym c.loop-before.invariant;
      before = omega (arith, c.loop-before-test.true, c.loop-before.auto.before);
    }

pub loop-before-preserved : goal.loop-before-preserved
loop-before-preserved c = c.loop-before.invariant ∙ start_back _ _ c.loop-before-test.true c.breaks_at.ensures c.if-breaks_at.false

pub returns : goal.returns
returns c = record { is = start_none _ c.loop-before-test.false ∙ sym c.loop-before.invariant; before = omega arith }
