-- `tables::pieces::mapped_bits` meets its contract: the pieces passed fit, and have so many bits.
use borrow.Author.Rules.{rules}
use native.Mathlib.Omega.{arith}
use Prim.Native.Nat.{ℕ}
use mathlib.Core.Path.{sym, ap₂, ◌∙◌}
use mathlib.Core.Bool.{Bool, ◌&&◌, not}
use lib.ListN.{length}
use Rattle.tables.specs.Tables.{bits_to, variable_part_in}
use Rattle.tables.specs.View.{part_no}
use Rattle.tables.proofs.Laws.{every-none, gathers, gathered-count}
use Rattle.tables.proofs.MarkLaws.{at_count, count-more, count_none}
use Rattle.tables.proofs.DistinctLaws.{maps-fails, maps-tells}
use Rattle.tables.proofs.pieces.mapped_bits.Goals as goal

pub loop-k-init : goal.loop-k-init
loop-k-init c = (search rules, every-none _, count_none _)

pub returns-then-not-fits : goal.returns-then-not-fits
returns-then-not-fits c =
    let a = c.args in
    maps-fails a.registers.now a.variables.now (part_no a.part) a.at c.loop-k-test.true c.word-n.ensures.is c.piece_fits.ensures c.overlaps_earlier.ensures c.if-not-fits.true

pub loop-k-preserved : goal.loop-k-preserved
loop-k-preserved c =
    let run = c.piece_run-count in
    let l = c.loop-k in
    let fits = ap₂ (λ (fits overlaps : Bool). fits && not overlaps) c.piece_fits.ensures c.overlaps_earlier.ensures in (
      omega arith,
      sym (gathers _ _ (sym l.invariant.1) (sym c.if-not-fits.false ∙ fits)),
      count-more _ _ run.result.from run.result.n l.invariant.2 run.ensures.bits,
    )

pub returns : goal.returns
returns c =
    let a = c.args in
    let l = c.loop-k in
    let vs = a.variables.now in
    let count = at_count (λ (k : ℕ). length (bits_to (variable_part_in vs a.at) k)) (omega arith) c.loop-k-test.false c.word-n.ensures.is l.invariant.2 in
    c.then_some.ensures ∙ maps-tells a.registers.now vs (part_no a.part) a.at (sym (gathered-count _ (omega arith) c.loop-k-test.false c.word-n.ensures.is (sym l.invariant.1))) count
