-- `station::confirmation::confirm` meets its contract: once `check` has found nothing, each arm has what its functions
-- ask from `Clear` and `Underway`; its answer is a law of `confirmed_by`.
use mathlib.Core.Path.{ap}
use native.Mathlib.Nat.{lt_of_lt_of_le}
use Rattle.station.specs.Station.{confirmed_by, state_of}
use Rattle.station.specs.Standing.{tables_of}
use Rattle.station.proofs.CallLaws.{leaves, reading, writing, writing-fits}
use Rattle.station.proofs.Laws.{no_fault_lem}
use Rattle.station.proofs.Meeting.{meets-refused, meets-passed}
use Rattle.station.proofs.Bridge.{confirm-is}
use Rattle.station.proofs.confirmation.confirm.Goals as goal

pub returns-in-Err : goal.returns-in-Err
returns-in-Err c =
    let t = tables_of c.args.parameters.now c.args.registers.now c.args.variables.now in
    let s = state_of c.args.held.now c.args.marks.now c.args.operation in
    meets-refused s _ (confirm-is t s c.args.byte) c.check.ensures c.in-Err.is c.refused.ensures

pub returns-in-Idle : goal.returns-in-Idle
unfolding confirmed_by
returns-in-Idle c =
    let t = tables_of c.args.parameters.now c.args.registers.now c.args.variables.now in
    let s = state_of c.args.held.now c.args.marks.now c.args.operation in
    meets-passed s _ (confirm-is t s c.args.byte) c.check.ensures c.in_default.is (ap (confirmed_by t s _) c.in-Idle.is) (leaves _ _ c.refused-in-Idle.ensures)

pub variable-requires-clause-sound : goal.variable-requires-clause-sound
variable-requires-clause-sound c =
    let t = tables_of c.args.parameters.now c.args.registers.now c.args.variables.now in
    (no_fault_lem t _ _ _ c.check.ensures c.in_default.is).sound

pub variable-requires-clause-inside : goal.variable-requires-clause-inside
variable-requires-clause-inside c =
    let t = tables_of c.args.parameters.now c.args.registers.now c.args.variables.now in
    (reading _ _ _ _ (no_fault_lem t _ _ _ c.check.ensures c.in_default.is) _ _ _ c.in-Reading.is).inside

pub confirm_read-requires : goal.confirm_read-requires
confirm_read-requires c =
    let t = tables_of c.args.parameters.now c.args.registers.now c.args.variables.now in
    let v = c.variable.ensures in
    rw (v.variables, v.number) (reading _ _ _ _ (no_fault_lem t _ _ _ c.check.ensures c.in_default.is) _ _ _ c.in-Reading.is).step-due

pub returns-in-Reading : goal.returns-in-Reading
unfolding confirmed_by
returns-in-Reading c =
    let t = tables_of c.args.parameters.now c.args.registers.now c.args.variables.now in
    let s = state_of c.args.held.now c.args.marks.now c.args.operation in
    let v = c.variable.ensures in
    meets-passed s _ (confirm-is t s c.args.byte) c.check.ensures c.in_default.is (ap (confirmed_by t s _) c.in-Reading.is)
    (leaves _ _ (rw (v.registers, v.variables, v.number) at c.confirm_read.ensures))

pub variable-requires-in-Writing-clause-sound : goal.variable-requires-in-Writing-clause-sound
variable-requires-in-Writing-clause-sound c =
    let t = tables_of c.args.parameters.now c.args.registers.now c.args.variables.now in
    (no_fault_lem t _ _ _ c.check.ensures c.in_default.is).sound

pub variable-requires-in-Writing-clause-inside : goal.variable-requires-in-Writing-clause-inside
variable-requires-in-Writing-clause-inside c =
    let t = tables_of c.args.parameters.now c.args.registers.now c.args.variables.now in
    (writing _ _ _ _ (no_fault_lem t _ _ _ c.check.ensures c.in_default.is) _ _ _ c.in-Writing.is).inside

pub confirm_write-requires : goal.confirm_write-requires
confirm_write-requires c =
    let t = tables_of c.args.parameters.now c.args.registers.now c.args.variables.now in
    let v = c.variable-in-Writing.ensures in
    let found = no_fault_lem t _ _ _ c.check.ensures c.in_default.is in
    let on = writing _ _ _ _ found _ _ _ c.in-Writing.is in
    record {
      step_bound = rw (v.variables, v.number) on.step-due;
      registers_in_bounds = rw v.registers found.held-long;
      v_in_bounds = rw v.number (lt_of_lt_of_le on.inside found.marks-long);
      value_bound = rw (v.variables, v.number) (writing-fits _ _ _ _ found _ _ _ c.in-Writing.is);
    }

pub returns-in-Writing : goal.returns-in-Writing
unfolding confirmed_by
returns-in-Writing c =
    let t = tables_of c.args.parameters.now c.args.registers.now c.args.variables.now in
    let s = state_of c.args.held.now c.args.marks.now c.args.operation in
    let v = c.variable-in-Writing.ensures in
    meets-passed s _ (confirm-is t s c.args.byte) c.check.ensures c.in_default.is (ap (confirmed_by t s _) c.in-Writing.is)
    (rw (v.registers, v.variables, v.number) at c.confirm_write.ensures)
