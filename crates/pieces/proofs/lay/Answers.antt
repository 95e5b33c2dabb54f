use Rattle.pieces.proofs.PieceLaws.{laid-turn, laid-all}
use mathlib.Core.Path.{refl}
use native.Mathlib.Omega.{arith}
use lib.ListN.{length-set}
use lib.Seq.{paste-zero}
use Rattle.pieces.proofs.lay.Goals as goal

pub loop-i-init : goal.loop-i-init
loop-i-init c = (omega arith, refl, paste-zero c.args.store.now c.args.taken c.args.piece.now)

pub loop-i-preserved : goal.loop-i-preserved
loop-i-preserved c = (omega arith, simp length-set c.loop-i.invariant.1, laid-turn c.args.store.now _ c.args.piece.now c.args.taken c.loop-i.i c.requires c.loop-i-test.true c.loop-i.invariant.2)

pub returns : goal.returns
returns c = laid-all c.args.store.now _ c.args.piece.now c.args.taken c.loop-i.i c.loop-i.invariant.0 c.loop-i-test.false c.loop-i.invariant.2
