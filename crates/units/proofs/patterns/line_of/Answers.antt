use Rattle.std.proofs.Common.{ap, ap₂, ◌∙◌, arith, ℤ, w64, to_z, of_z}
use Rattle.units.specs.Units.{converted}
use Rattle.units.specs.Lines.{told_as, line_of}
use Rattle.bits.proofs.Signed.{natural-read}
use Rattle.units.proofs.PatternLaws.{told-is}
use Rattle.units.proofs.patterns.line_of.Goals as goal

pub returns : goal.returns
unfolding line_of
returns c =
    let read = ap (λ (z : ℤ). to_z w64 (of_z w64 z)) c.from.ensures ∙ natural-read c.args.reading (omega arith) in
    told-is c.convert.result _ c.map.ensures.cases
    ∙ ap told_as (c.convert.ensures ∙ ap₂ converted read c.calibration_of.ensures)
