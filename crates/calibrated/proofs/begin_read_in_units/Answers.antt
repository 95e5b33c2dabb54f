use mathlib.Core.Path.{sym, ◌∙◌}
use Rattle.tables.specs.View.{sound}
use Rattle.station.specs.Standing.{tables_of}
use Rattle.calibrated.proofs.ReadingLaws.{read-begun, without-units}
use Rattle.calibrated.proofs.begin_read_in_units.Goals as goal
use Rattle.calibrated.proofs.begin_read_in_units.Goals.{then-is_refused-via-then-is_refused, then-is_refused-via-else-is_refused+then-has_units}

pub returns-then-is_refused : goal.returns-then-is_refused
returns-then-is_refused c =
    let t = tables_of c.args.parameters.now c.args.registers.now c.args.variables.now in
    let begun = c.begin_read-begun.ensures in
    elim c.then-is_refused.branch [
      | then-is_refused-via-then-is_refused w ↦
          read-begun sound t _ _ c.args.operation c.args.v c.args.calibration begun (rw (sym c.is_refused.ensures ∙ w.if-is_refused.true))
      | then-is_refused-via-else-is_refused+then-has_units w ↦
          read-begun sound t _ _ c.args.operation c.args.v c.args.calibration begun
          (rw (sym c.is_refused.ensures ∙ w.if-is_refused.false, sym w.has_units.ensures ∙ w.if-has_units.true))
    ]

pub returns : goal.returns
returns c =
    let t = tables_of c.args.parameters.now c.args.registers.now c.args.variables.now in
    without-units sound t _ _ c.args.operation c.args.v c.args.calibration c.begin_read-begun.ensures
    (rw (sym c.is_refused.ensures ∙ c.if-is_refused.false, sym c.has_units.ensures ∙ c.if-has_units.false))
