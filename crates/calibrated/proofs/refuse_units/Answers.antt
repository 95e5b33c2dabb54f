use Rattle.tables.specs.View.{sound}
use Rattle.station.specs.Standing.{tables_of}
use Rattle.station.specs.Promise.{lent}
use Rattle.calibrated.proofs.ReadingLaws.{early-refused, late-refused}
use Rattle.calibrated.proofs.refuse_units.Goals as goal

pub returns-then-is_early : goal.returns-then-is_early
returns-then-is_early c = early-refused sound (tables_of c.args.parameters.now c.args.registers.now c.args.variables.now) (lent c.args.held.now c.args.marks.now c.args.operation) 0 c.begin_read-begun.ensures.answer-is c.is_early.ensures c.if-is_early.true

pub returns-else-is_early : goal.returns-else-is_early
returns-else-is_early c = late-refused sound (tables_of c.args.parameters.now c.args.registers.now c.args.variables.now) (lent c.args.held.now c.args.marks.now c.args.operation) 0 c.begin_read-begun.ensures.answer-is c.is_early.ensures c.if-is_early.false
