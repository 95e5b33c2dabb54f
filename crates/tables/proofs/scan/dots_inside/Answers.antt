-- `tables::scan::dots_inside` meets its contract: the loop invariant says that what is gathered so far is the
-- definition at the counter.
use Rattle.tables.proofs.Laws.{every-none, gathers, gathered}
use lib.Dec.{eqb}
use lib.ListN.{get_or}
use mathlib.Core.Bool.{not, ◌||◌, Bool}
use mathlib.Core.Path.{sym, ap}
use Prim.Native.Nat.{◌+◌}
use native.Mathlib.Omega.{arith}
use Rattle.tables.proofs.scan.dots_inside.Goals as goal

pub loop-b-init : goal.loop-b-init
loop-b-init c = sym (every-none _)

pub loop-b-preserved : goal.loop-b-preserved
loop-b-preserved c =
    let l = c.loop-b in
    let a = c.args in
    gathers _ _ l.invariant (ap (λ (x : Bool). not x || not (eqb (get_or a.map.now (a.from + l.b) 0) 0)) c.bit_of.ensures)

pub returns : goal.returns
returns c = gathered _ (omega arith) c.loop-b-test.false c.loop-b.invariant
