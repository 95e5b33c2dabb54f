-- What is promised of readings in units at the station, of any tables, any state and any calibration (02, No. 10).
use Rattle.std.specs.Prelude.{ℕ, ◌≡◌, Bool, ◌⊎◌, [], ◌∷◌, ℤ, Err}
use Rattle.units.specs.declared.Calibration.{Calibration}
use Rattle.units.specs.declared.unconverted.Unconverted.TheVariants.{Infinite}
use Rattle.units.specs.Units.{converted}
use Rattle.tables.specs.View.{Tables}
use Rattle.station.specs.declared.Operation.TheVariants.{Idle}
use Rattle.station.specs.declared.Answer.TheVariants.{Done}
use Rattle.station.specs.Answers.{numbers_of}
use Rattle.station.specs.Calls.{State, refused, begin_read, confirm}
use Rattle.calibrated.specs.declared.InUnits.TheVariants.{Stopped as Over}
use Rattle.calibrated.specs.Readings.{unit_tests, begin_in_units, confirm_in_units}

-- the read that is over without an answer: it was done, and the product or the sum is not finite
pub record OverBy (sound : Tables → Bool) (t : Tables) (s : State) (byte : ℕ) (c : Calibration) (n : ℕ) : Type 0 where
  pub is_54 : n ≡ 54
  pub value : ℤ
  pub accesses : ℕ
  pub was-done : (confirm sound t s byte).answer ≡ Done value accesses
  pub not_finite : converted value c ≡ Err Infinite
  pub is-over : (confirm_in_units sound t s byte c).state.operation ≡ Idle

pub record AtTheStation (sound : Tables → Bool) (t : Tables) (s : State) (c : Calibration) : Type 0 where
  -- a begin's refusals, in order of number
  pub can_give : (v : ℕ) → numbers_of (unit_tests sound t s v c) ≡ 20 ∷ 21 ∷ 22 ∷ 23 ∷ 25 ∷ 26 ∷ 28 ∷ 53 ∷ []
  -- "Demands 2 and 3 keep speaking of raw values": a begin is that of an ordinary read, and a confirmation leaves what
  -- an ordinary one does; but where 53 refuses, which leaves everything as it was
  pub begins-raw : (v : ℕ) → (begin_in_units sound t s v c ≡ begin_read sound t s v) ⊎ (begin_in_units sound t s v c ≡ refused 53 s)
  pub confirms-raw : (byte : ℕ) → ((confirm_in_units sound t s byte c).state ≡ (confirm sound t s byte).state) ⊎ ((confirm_in_units sound t s byte c).state ≡ s)
  -- "a product or sum not finite is refused after the read is done"
  pub after-done : (byte n : ℕ) → (confirm_in_units sound t s byte c).answer ≡ Over n → OverBy sound t s byte c n
