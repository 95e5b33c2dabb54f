use Rattle.units.proofs.patterns.calibration_of.Goals as goal

pub returns : goal.returns
returns c = rw (c.float_of.ensures, c.float_of-2.ensures)
