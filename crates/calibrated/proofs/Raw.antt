-- Readings in units leave the station as raw ones do, and 54 is given in place of done alone. Assumes nothing.
use Prim.Native.Nat.{ℕ, suc}
use native.Mathlib.Omega.{arith}
use mathlib.Core.Path.{◌≡◌, refl, ap, ◌∙◌}
use mathlib.Core.Bool.{Bool, true, false, cond, ◌&&◌, ◌||◌}
use mathlib.Core.Logic.{◌⊎◌, inl, inr}
use lib.IntN.{ℤ}
use mathlib.Core.List.{List, []}
use Rattle.logic.proofs.Tests.{and_left}
use Rattle.units.specs.declared.Calibration.{Calibration}
use Rattle.std.proofs.Common.{Result, Ok, Err, Float}
use Rattle.units.specs.declared.unconverted.Unconverted.{Unconverted}
use Rattle.units.specs.declared.unconverted.Unconverted.TheVariants.{Infinite}
use Rattle.units.specs.Unconverted.{number_of}
use Rattle.units.specs.Units.{is_finite, is_usable, product, in_units, converted}
use Rattle.tables.specs.View.{Tables, obeys}
use Rattle.station.specs.declared.Operation.{Operation}
use Rattle.station.specs.declared.Operation.TheVariants.{Idle, Reading, Writing}
use Rattle.station.specs.declared.Answer.{Answer}
use Rattle.station.specs.declared.Answer.TheVariants.{Refused, Stopped, Opened, Offer as Offered, Done, Abandoned as Ended}
use Rattle.tables.specs.declared.Part.TheVariants.{Read as reading, Write as writing}
use Rattle.station.specs.Calls.{State, Outcome, refused, contradicted, gather, register_taken, is_last, keeping, write_access, read_on, write_on, checked, confirmed, begin_read, confirm}
use Rattle.station.proofs.Refusals.{unless-cases}
use Rattle.calibrated.specs.declared.InUnits.{InUnits}
use Rattle.calibrated.specs.declared.InUnits.TheVariants.{Reading as Read, Stopped as Over, Same}
use Rattle.calibrated.specs.Readings.{is_refused, is_numeric, has_units, read_as, done_in, in_units_of, units_for, answer_for, Told, told_for, begin_in_units, confirm_in_units}
use Rattle.calibrated.specs.Claim.{OverBy, AtTheStation}
use Rattle.calibrated.proofs.ReadingLaws.{by_cases}

module _ (sound : Tables → Bool) (t : Tables) (s : State) (c : Calibration) where
  begins-as : (v : ℕ) → (begin_in_units sound t s v c ≡ begin_read sound t s v) ⊎ (begin_in_units sound t s v c ≡ refused 53 s)
  begins-as v = go (is_refused (begin_read sound t s v).answer || has_units t.variables v c) (by_cases sound t s v c)
    where
      go : (b : Bool) → begin_in_units sound t s v c ≡ cond b (begin_read sound t s v) (refused 53 s)
          → (begin_in_units sound t s v c ≡ begin_read sound t s v) ⊎ (begin_in_units sound t s v c ≡ refused 53 s)
      go true e = inl e
      go false e = inr e

  confirms-as : (units : Bool) (o : Outcome) → ((told_for units s c o).state ≡ o.state) ⊎ ((told_for units s c o).state ≡ s)
  confirms-as units o = go (is_refused o.answer || units)
    where
      go : (b : Bool) → let told : Told = cond b (record { answer = answer_for s.operation c o.answer; state = o.state }) (record { answer = Same (Refused 53); state = s }) in
          (told.state ≡ o.state) ⊎ (told.state ≡ s)
      go true = inl refl
      go false = inr refl

-- ── 54 ──

-- one more than the number with which a read is over, and 0 for every other answer
over_by : InUnits → ℕ
over_by (Read x accesses) = 0
over_by (Over n) = suc n
over_by (Same answer) = 0

same-not-over : (answer : Answer) (n : ℕ) → Same answer ≡ Over n → ⊥
unfolding over_by
same-not-over answer n e = let k : 0 ≡ suc n = ap over_by e in omega arith

-- the read was done, there were units, and the conversion failed by this number
record Failed (c : Calibration) (units : Bool) (answer : Answer) (n : ℕ) : Type 0 where
  had_units : units ≡ true
  value : ℤ
  accesses : ℕ
  was-done : answer ≡ Done value accesses
  why : Unconverted
  not-converted : converted value c ≡ Err why
  by-number : n ≡ number_of why

failed-by : (a : Result Float Unconverted) (accesses n : ℕ) → read_as a accesses ≡ Over n → (why : Unconverted) × (a ≡ Err why) × (n ≡ number_of why)
unfolding read_as over_by
failed-by (Ok x) accesses n e = let k : 0 ≡ suc n = ap over_by e in absurd (omega arith)
failed-by (Err why) accesses n e = let k : suc (number_of why) ≡ suc n = ap over_by e in (why, refl, omega arith)

over_when : (c : Calibration) (op : Operation) (answer : Answer) (variables : List ℕ) (n : ℕ) (b : Bool) (left : State) (s : State) → (is_refused answer || units_for op variables c) ≡ b
    → (cond {A = Told} b (record { answer = answer_for op c answer; state = left }) (record { answer = Same (Refused 53); state = s })).answer ≡ Over n
    → Failed c (is_usable c) answer n × (b ≡ true)
unfolding in_units_of done_in has_units
over_when c op answer variables n false left s is e = absurd (same-not-over (Refused 53) n e)
over_when c Idle answer variables n true left s is e = absurd (same-not-over answer n e)
over_when c (Writing v step x) answer variables n true left s is e = absurd (same-not-over answer n e)
over_when c (Reading v step g) (Done value accesses) variables n true left s is e =
    let f = failed-by (converted value c) accesses n e in (
      record {
        had_units = and_left (is_usable c) (is_numeric variables v) is;
        value = value;
        accesses = accesses;
        was-done = refl;
        why = f.0;
        not-converted = f.1;
        by-number = f.2;
      },
      refl,
    )
over_when c (Reading v step g) (Offered a) variables n true left s is e = absurd (same-not-over (Offered a) n e)
over_when c (Reading v step g) Opened variables n true left s is e = absurd (same-not-over Opened n e)
over_when c (Reading v step g) Ended variables n true left s is e = absurd (same-not-over Ended n e)
over_when c (Reading v step g) (Refused m) variables n true left s is e = absurd (same-not-over (Refused m) n e)
over_when c (Reading v step g) (Stopped m r) variables n true left s is e = absurd (same-not-over (Stopped m r) n e)

-- a calibration with units can only fail by what the reading makes of it
fails-infinite : (z : ℤ) (c : Calibration) {why : Unconverted} → is_usable c ≡ true → converted z c ≡ Err why → why ≡ Infinite
unfolding converted
fails-infinite z c {why} usable e = go (is_finite (product z c) && is_finite (in_units z c)) (rw usable at e)
  where
    go : (b : Bool) → cond b (Ok (in_units z c)) (Err Infinite) ≡ Err why → why ≡ Infinite
    go true f = absurd cc
    go false f = cc

-- ── done ends the operation ──

is_done : Answer → ℕ
is_done (Done value accesses) = 1
is_done (Offered a) = 0
is_done Opened = 0
is_done Ended = 0
is_done (Refused n) = 0
is_done (Stopped n r) = 0

abbrev EndsIfDone : Outcome → Type 0
EndsIfDone o = is_done o.answer ≡ 1 → o.state.operation ≡ Idle

not_done : {P : Type 0} → ◌≡◌ {A = ℕ} 0 1 → P
not_done e = absurd (omega arith)

module _ (sound : Tables → Bool) (t : Tables) (s : State) (byte : ℕ) where
  read-ends : (b last : Bool) (r v step g : ℕ) → EndsIfDone (cond b (read_on last t s v step g) (contradicted r s))
  unfolding is_done
  read-ends true true r v step g e = refl
  read-ends true false r v step g e = not_done e
  read-ends false last r v step g e = not_done e

  write-ends : (last : Bool) (at : State) (v step x : ℕ) → EndsIfDone (write_on last t at v step x)
  unfolding is_done
  write-ends true at v step x e = refl
  write-ends false at v step x e = not_done e

  confirmed-ends : (op : Operation) → EndsIfDone (confirmed t s op byte)
  unfolding is_done
  confirmed-ends Idle e = not_done e
  confirmed-ends (Reading v step g) e = read-ends (obeys t reading (register_taken t reading v step) byte) (is_last t reading v (suc step)) (register_taken t reading v step) v (suc step) (gather t v g (register_taken t reading v step) byte) e
  confirmed-ends (Writing v step x) e = write-ends (is_last t writing v (suc step)) (keeping s (register_taken t writing v step) (write_access t s v step x).byte) v (suc step) x e

  confirm-ends : EndsIfDone (confirm sound t s byte)
  unfolding is_done
  confirm-ends = unless-cases EndsIfDone (checked sound t s []) s (confirmed t s s.operation byte) (λ n e. not_done e) (λ _. confirmed-ends s.operation)

  -- ── the claim ──

  over_by_lem : (c : Calibration) (n : ℕ) → (confirm_in_units sound t s byte c).answer ≡ Over n → OverBy sound t s byte c n
  unfolding is_done
  over_by_lem c n e =
      let o : Outcome = confirm sound t s byte in
      let all = over_when c s.operation o.answer t.variables n (is_refused o.answer || units_for s.operation t.variables c) o.state s refl e in
      let f = all.0 in
      let infinite = fails-infinite f.value c f.had_units f.not-converted in
      record {
        is_54 = f.by-number ∙ ap number_of infinite;
        value = f.value;
        accesses = f.accesses;
        was-done = f.was-done;
        not_finite = f.not-converted ∙ ap Err infinite;
        is-over = rw all.1 (confirm-ends (ap is_done f.was-done));
      }

pub at_the_station : (sound : Tables → Bool) (t : Tables) (s : State) (c : Calibration) → AtTheStation sound t s c
at_the_station sound t s c =
    record {
      can_give = λ v. refl;
      begins-raw = begins-as sound t s c;
      confirms-raw = λ byte. confirms-as sound t s c (units_for s.operation t.variables c) (confirm sound t s byte);
      after-done = λ byte n e. over_by_lem sound t s byte c n e;
    }
