-- `tables::scan::dots_marked` meets its contract: what is gathered so far is the definition at the counter, and behind
-- the last dot nothing is asked.
use Rattle.tables.proofs.Laws.{every-none}
use Rattle.tables.proofs.RunLaws.{bits_left, dots-end, dots-more}
use Rattle.bits.specs.Widths.{widest}
use Rattle.tables.specs.Scan.{at_once}
use lib.Dec.{eqb}
use lib.ListN.{get_or}
use mathlib.Core.Bool.{not}
use mathlib.Core.Path.{sym}
use Prim.Native.Nat.{◌+◌}
use native.Mathlib.Omega.{arith}
use borrow.Author.Rules.{rules}
use Rattle.tables.proofs.scan.dots_marked.Goals as goal

pub loop-b-init : goal.loop-b-init
loop-b-init c = (search rules, sym (every-none _))

pub loop-b-smaller : goal.loop-b-smaller
loop-b-smaller c =
    let l = c.loop-b in
    let more = bits_left widest l.b c.args.dots c.requires.dots_bound c.loop-b-test.true in
    omega arith

pub loop-b-preserved : goal.loop-b-preserved
loop-b-preserved c =
    let l = c.loop-b in
    let more = bits_left widest l.b c.args.dots c.requires.dots_bound c.loop-b-test.true in
    (omega arith, dots-more (λ n. not (eqb (get_or c.args.map.now n 0) 0)) at_once l.b c.args.from c.args.dots l.invariant.1 c.low_dots_marked-ok.ensures)

pub returns : goal.returns
returns c =
    dots-end (λ k. not (eqb (get_or c.args.map.now (c.args.from + k) 0) 0)) widest _ _ c.requires.dots_bound c.loop-b-test.false c.loop-b.invariant.1
