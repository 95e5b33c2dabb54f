-- `station::abandoning::abandon` meets its contract.
use mathlib.Core.Path.{ap, refl}
use native.Mathlib.Nat.{lt_of_lt_of_le}
use Rattle.station.specs.Standing.{tables_of}
use Rattle.station.specs.Station.{state_of, abandoned_by}
use Rattle.station.proofs.Laws.{no_fault_lem}
use Rattle.station.proofs.CallLaws.{leaves, writing}
use Rattle.station.proofs.Meeting.{meets-refused, meets-passed}
use Rattle.station.proofs.Bridge.{abandon-is}
use Rattle.station.proofs.abandoning.abandon.Goals as goal
use Rattle.station.proofs.abandoning.abandon.Goals.{in-Reading, in-Writing}

pub returns-in-Err : goal.returns-in-Err
returns-in-Err c =
    let t = tables_of c.args.parameters.now c.args.registers.now c.args.variables.now in
    let s = state_of c.args.held.now c.args.marks.now c.args.operation in
    meets-refused s _ (abandon-is t s) c.check.ensures c.in-Err.is c.refused.ensures

pub returns-in-Idle : goal.returns-in-Idle
unfolding abandoned_by
returns-in-Idle c =
    let t = tables_of c.args.parameters.now c.args.registers.now c.args.variables.now in
    let s = state_of c.args.held.now c.args.marks.now c.args.operation in
    meets-passed s _ (abandon-is t s) c.check.ensures c.in_default.is (ap (abandoned_by s) c.in-Idle.is) (leaves _ _ c.refused-in-Idle.ensures)

pub bounds-marks-variable : goal.bounds-marks-variable
bounds-marks-variable c =
    let t = tables_of c.args.parameters.now c.args.registers.now c.args.variables.now in
    let clear = no_fault_lem t _ _ _ c.check.ensures c.in_default.is in
    lt_of_lt_of_le (writing _ _ _ _ clear _ _ _ c.in-Writing.is).inside clear.marks-long

pub returns : goal.returns
unfolding abandoned_by
returns c =
    let t = tables_of c.args.parameters.now c.args.registers.now c.args.variables.now in
    let s = state_of c.args.held.now c.args.marks.now c.args.operation in
    elim c.match-operation.branch [
      | in-Reading w ↦
          meets-passed s _ (abandon-is t s) c.check.ensures c.in_default.is (ap (abandoned_by s) w.in-Reading.is)
          (record { outcome-is = c.over.ensures; held-is = refl; marks-is = w.marks-is })
      | in-Writing w ↦
          meets-passed s _ (abandon-is t s) c.check.ensures c.in_default.is (ap (abandoned_by s) w.in-Writing.is)
          (record { outcome-is = c.over.ensures; held-is = refl; marks-is = w.marks-is })
    ]
