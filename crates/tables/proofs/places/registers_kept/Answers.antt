-- `tables::places::registers_kept` meets its contract: the loop invariant says that the slots are those of the
-- registers passed, and what was gathered of these.
use borrow.Author.Rules.{rules}
use native.Mathlib.Omega.{arith}
use mathlib.Core.Path.{sym}
use Rattle.tables.proofs.Laws.{every-fails, every-none, gathers, gathered-count, reads-eq, reads-ne}
use Rattle.tables.proofs.MapLaws.{map-none}
use Rattle.tables.proofs.SlotLaws.{fault-told, slots-more}
use Rattle.tables.proofs.places.registers_kept.Goals as goal

pub loop-i-init : goal.loop-i-init
loop-i-init c = (map-none 256 _, map-none 256 _, every-none _)

pub taken_before-requires : goal.taken_before-requires
taken_before-requires c = record {
  i_bound = search rules;
  slots_value = c.loop-i.invariant.0;
}

pub taken_before-requires-in-loop-i : goal.taken_before-requires-in-loop-i
taken_before-requires-in-loop-i c = record {
  i_bound = search rules;
  slots_value = c.loop-i.invariant.1;
}

pub returns-then-fault_by-ne0 : goal.returns-then-fault_by-ne0
returns-then-fault_by-ne0 c =
    let x = c.args in
    let l = c.loop-i in
    let told = fault-told x.parameters.now x.registers.now l.i c.taken_before.ensures c.taken_before-in-loop-i.ensures c.fault_by.ensures in
    sym (every-fails _ _ l.i (omega (arith, c.word-i-end.ensures.is, c.loop-i-test.true)) (reads-ne told c.if-fault_by-ne0.true))

pub loop-i-preserved : goal.loop-i-preserved
loop-i-preserved c =
    let x = c.args in
    let rs = x.registers.now in
    let l = c.loop-i in
    let told = fault-told x.parameters.now rs l.i c.taken_before.ensures c.taken_before-in-loop-i.ensures c.fault_by.ensures in (
      slots-more rs 0 l.i l.invariant.0 c.enter_slot.ensures,
      slots-more rs 1 l.i l.invariant.1 c.enter_slot-in-loop-i.ensures,
      sym (gathers _ _ (sym l.invariant.2) (sym (reads-eq told c.if-fault_by-ne0.false))),
    )

pub returns : goal.returns
returns c = gathered-count _ (omega arith) c.loop-i-test.false c.word-i-end.ensures.is (sym c.loop-i.invariant.2)
