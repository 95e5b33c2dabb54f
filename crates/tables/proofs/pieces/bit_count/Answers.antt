-- `tables::pieces::bit_count` meets its contract: the loop invariant says that what is gathered so far is the
-- definition at the counter.
use Rattle.tables.proofs.MarkLaws.{count_none, count-more, at_count}
use Rattle.tables.specs.Tables.{bits_to, variable_part_in}
use lib.ListN.{length}
use Prim.Native.Nat.{ℕ}
use native.Mathlib.Omega.{arith}
use borrow.Author.Rules.{rules}
use Rattle.tables.proofs.pieces.bit_count.Goals as goal

pub loop-k-init : goal.loop-k-init
loop-k-init c = (search rules, count_none _)

pub loop-k-preserved : goal.loop-k-preserved
loop-k-preserved c = let run = c.piece_run-bits in
    let l = c.loop-k in
    (omega arith, count-more _ _ run.result.from run.result.n l.invariant.1 run.ensures.bits)

pub returns : goal.returns
returns c = let s = c.args in
    at_count (λ (k : ℕ). length (bits_to (variable_part_in s.variables.now s.at) k)) (omega arith) c.loop-k-test.false c.word-n.ensures.is c.loop-k.invariant.1
