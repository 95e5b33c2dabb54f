-- `station::begin::begin_read` meets its contract.
use mathlib.Core.Path.{ap}
use native.Mathlib.Nat.{lt_of_lt_of_le}
use Rattle.tables.specs.declared.Part.TheVariants.{Read}
use Rattle.station.specs.Standing.{tables_of}
use Rattle.station.specs.Station.{state_of, leave}
use Rattle.station.proofs.CallLaws.{leaves, begins, read-marked, read-starts}
use Rattle.station.proofs.Meeting.{meets-refused, meets-passed}
use Rattle.station.proofs.Bridge.{begin_read-is}
use Rattle.station.proofs.begin.begin_read.Goals as goal

pub returns-in-Err : goal.returns-in-Err
returns-in-Err c =
    let t = tables_of c.args.parameters.now c.args.registers.now c.args.variables.now in
    let s = state_of c.args.held.now c.args.marks.now c.args.operation in
    meets-refused s _ (begin_read-is t s c.args.v) c.check_begin.ensures c.in-Err.is c.refused.ensures

pub bounds-marks-v : goal.bounds-marks-v
bounds-marks-v c =
    let t = tables_of c.args.parameters.now c.args.registers.now c.args.variables.now in
    let begun = begins t _ _ _ _ Read c.check_begin.ensures c.in_default.is in
    lt_of_lt_of_le begun.inside begun.clear.marks-long

pub returns-then-marks-v-ne0 : goal.returns-then-marks-v-ne0
returns-then-marks-v-ne0 c =
    let t = tables_of c.args.parameters.now c.args.registers.now c.args.variables.now in
    let s = state_of c.args.held.now c.args.marks.now c.args.operation in
    meets-passed s _ (begin_read-is t s c.args.v) c.check_begin.ensures c.in_default.is (ap (leave s) (read-marked t s _ c.if-marks-v-ne0.true)) (leaves _ _ c.refused-then-marks-v-ne0.ensures)

pub variable-requires-clause-sound : goal.variable-requires-clause-sound
variable-requires-clause-sound c =
    let t = tables_of c.args.parameters.now c.args.registers.now c.args.variables.now in
    (begins t _ _ _ _ Read c.check_begin.ensures c.in_default.is).clear.sound

pub variable-requires-clause-inside : goal.variable-requires-clause-inside
variable-requires-clause-inside c =
    let t = tables_of c.args.parameters.now c.args.registers.now c.args.variables.now in
    (begins t _ _ _ _ Read c.check_begin.ensures c.in_default.is).inside

pub offer_read-requires : goal.offer_read-requires
offer_read-requires c =
    let t = tables_of c.args.parameters.now c.args.registers.now c.args.variables.now in
    let v = c.variable.ensures in
    rw (v.variables, v.number) (begins t _ _ _ _ Read c.check_begin.ensures c.in_default.is).some

pub returns : goal.returns
returns c =
    let t = tables_of c.args.parameters.now c.args.registers.now c.args.variables.now in
    let s = state_of c.args.held.now c.args.marks.now c.args.operation in
    let v = c.variable.ensures in
    meets-passed s _ (begin_read-is t s c.args.v) c.check_begin.ensures c.in_default.is (ap (leave s) (read-starts t s _ c.if-marks-v-ne0.false)) (leaves _ _ (rw (v.registers, v.variables, v.number) at c.offer_read.ensures))
