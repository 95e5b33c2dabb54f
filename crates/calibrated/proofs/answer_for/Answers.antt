use mir.Syntax.{w64}
use mir.Facts.{to_z-of_z}
use lib.IntN.{ℤ}
use mathlib.Core.Path.{ap, ◌∙◌}
use borrow.Author.Rules.{rules}
use Rattle.calibrated.specs.Readings.{done_in, in_units_of}
use Rattle.calibrated.proofs.ReadingLaws.{same-unless-done}
use Rattle.calibrated.proofs.answer_for.Goals as goal

pub returns-in-Reading-Done : goal.returns-in-Reading-Done
unfolding in_units_of
returns-in-Reading-Done c =
    let read = c.in-Reading-Done in
    rw (read.is-0, read.is-1) (c.done_in.ensures ∙ ap (λ (z : ℤ). done_in z read.accesses c.args.calibration) (to_z-of_z {w = w64} (search rules)))

pub returns-in_default : goal.returns-in_default
returns-in_default c = rw c.in_default.is-0 (same-unless-done c.args.calibration c.args.answer c.in_default.not-Done-1)
