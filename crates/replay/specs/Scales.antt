-- Reads in units in a script: `calibrated` begins one, and while it is in hand `confirm` is in units, with the same
-- calibration; an operation put in hand by `hold` is plain. rust/second/README.md, "Scripts".
use Rattle.std.specs.Prelude.{Bool, true, false, cond, ℕ, Option, Some, None}
use Rattle.units.specs.declared.Calibration.{Calibration}
use Rattle.station.specs.declared.Operation.{Operation}
use Rattle.station.specs.declared.Operation.TheVariants.{Idle, Reading, Writing}
use Rattle.station.specs.declared.Outcome as Station
use Rattle.calibrated.specs.declared.InUnits.TheVariants.{Same}
use Rattle.calibrated.specs.declared.OutcomeInUnits as Code
use Rattle.replay.specs.declared.call.Request.{Request}
use Rattle.replay.specs.declared.call.Request.TheVariants.{Open, Read, Write, Confirm, Abandon, Calibrated}

-- how a read in hand is confirmed: in units, with the calibration that it began with, or not
abbrev pub Scale : Type 0
Scale = Option Calibration

-- a confirmation in units, with the calibration of the read in hand
abbrev pub with_byte : Request → Calibration → Option (ℕ × Calibration)
with_byte (Open count) c = None
with_byte (Read v) c = None
with_byte (Write v z) c = None
with_byte (Confirm b) c = Some (b, c)
with_byte Abandon c = None
with_byte (Calibrated v d) c = None

abbrev pub confirmed_in : Scale → Request → Option (ℕ × Calibration)
confirmed_in None request = None
confirmed_in (Some c) request = with_byte request c

-- the station's outcome, as it is
abbrev pub plainly : Station.Outcome → Code.OutcomeInUnits
plainly o = record { operation = o.operation; answer = Same o.answer }

abbrev pub is_idle : Operation → Bool
is_idle Idle = true
is_idle (Reading v step g) = false
is_idle (Writing v step x) = false

-- the scale of the operation that a request begins
abbrev pub brought_by : Request → Scale
brought_by (Open count) = None
brought_by (Read v) = None
brought_by (Write v z) = None
brought_by (Confirm b) = None
brought_by Abandon = None
brought_by (Calibrated v c) = Some c

-- an operation that is in hand where none was has just begun; one that stays keeps its scale
unfoldable pub scale_after : Operation → Operation → Scale → Request → Scale
scale_after before after scale request = cond (is_idle after) None (cond (is_idle before) (brought_by request) scale)
