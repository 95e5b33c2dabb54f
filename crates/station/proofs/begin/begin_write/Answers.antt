-- `station::begin::begin_write` meets its contract.
use mathlib.Core.Path.{◌∙◌, ap}
use mir.Facts.{to_z-of_z}
use Prim.Native.Nat.{ℕ}
use Rattle.std.proofs.Common.{Option}
use Rattle.tables.specs.declared.Part.TheVariants.{Write}
use Rattle.station.specs.declared.refusal.Refusal.{Refusal}
use Rattle.station.specs.Standing.{tables_of, refusal_no}
use Rattle.station.specs.Station.{state_of, leave, refusal, outside_of, started_write}
use Rattle.station.proofs.CallLaws.{leaves, encoded-as, begins}
use Rattle.station.proofs.Meeting.{meets-refused, meets-passed}
use Rattle.station.proofs.Bridge.{begin_write-is}
use Rattle.station.proofs.begin.begin_write.Goals as goal

pub returns-in-Err : goal.returns-in-Err
returns-in-Err c =
    let t = tables_of c.args.parameters.now c.args.registers.now c.args.variables.now in
    let s = state_of c.args.held.now c.args.marks.now c.args.operation in
    meets-refused s _ (begin_write-is t s c.args.v _) c.check_begin.ensures c.in-Err.is c.refused.ensures

pub variable-variable-requires-clause-sound : goal.variable-variable-requires-clause-sound
variable-variable-requires-clause-sound c =
    let t = tables_of c.args.parameters.now c.args.registers.now c.args.variables.now in
    (begins t _ _ _ _ Write c.check_begin.ensures c.in_default.is).clear.sound

pub variable-variable-requires-clause-inside : goal.variable-variable-requires-clause-inside
variable-variable-requires-clause-inside c =
    let t = tables_of c.args.parameters.now c.args.registers.now c.args.variables.now in
    (begins t _ _ _ _ Write c.check_begin.ensures c.in_default.is).inside

pub offer_write-requires : goal.offer_write-requires
offer_write-requires c =
    let t = tables_of c.args.parameters.now c.args.registers.now c.args.variables.now in
    let v = c.variable-variable.ensures in
    rw (v.variables, v.number) (begins t _ _ _ _ Write c.check_begin.ensures c.in_default.is).some

pub returns-in-Some : goal.returns-in-Some
unfolding started_write
returns-in-Some c =
    let t = tables_of c.args.parameters.now c.args.registers.now c.args.variables.now in
    let s = state_of c.args.held.now c.args.marks.now c.args.operation in
    let v = c.variable-variable.ensures in
    let pattern = encoded-as c.encode.ensures c.kind.ensures c.width.ensures (to_z-of_z c.ranges.value) ∙ c.in-Some.is in
    meets-passed s _ (begin_write-is t s c.args.v _) c.check_begin.ensures c.in_default.is
    (ap (λ (e : Option ℕ). leave s (started_write t s c.args.v c.args.value e)) (rw (v.variables, v.number) at pattern))
    (leaves _ _ (rw (v.registers, v.variables, v.number) at c.offer_write.ensures))

pub returns-in-None : goal.returns-in-None
unfolding started_write
returns-in-None c =
    let t = tables_of c.args.parameters.now c.args.registers.now c.args.variables.now in
    let s = state_of c.args.held.now c.args.marks.now c.args.operation in
    let v = c.variable-variable.ensures in
    let outside = encoded-as c.encode.ensures c.kind.ensures c.width.ensures (to_z-of_z c.ranges.value) ∙ c.in-None.is in
    let why = c.outside.ensures ∙ ap outside_of (to_z-of_z c.ranges.value) in
    meets-passed s _ (begin_write-is t s c.args.v _) c.check_begin.ensures c.in_default.is
    (ap (λ (e : Option ℕ). leave s (started_write t s c.args.v c.args.value e)) (rw (v.variables, v.number) at outside))
    (leaves _ _ (c.refused-in-None.ensures ∙ ap (λ (r : Refusal). refusal c.args.operation (refusal_no r)) why))
