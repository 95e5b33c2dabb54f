-- Answers in units told in words: the numbers fit, and the call keeps the promise of the C face. Assumes nothing.
use Prim.Native.Nat.{ℕ, ◌<◌, ◌^◌}
use mathlib.Core.Path.{◌≡◌, ◌∙◌, refl, sym, subst}
use mathlib.Core.Bool.{Bool, true, false, cond, not, ◌&&◌, ◌||◌}
use mathlib.Core.List.{List}
use lib.IntN.{ℤ}
use lib.ListN.{get_or}
use mir.Syntax.{w32}
use mir.Val.{Fits}
use Rattle.units.specs.declared.Calibration.{Calibration}
use Rattle.std.proofs.Common.{Ok, Err}
use Rattle.units.specs.declared.unconverted.Unconverted.TheVariants.{Unusable, Infinite}
use Rattle.units.specs.Units.{is_finite, is_usable, product, in_units, converted}
use Rattle.tables.specs.declared.Part.TheVariants.{Read as reading}
use Rattle.tables.specs.View.{Tables, sound}
use Rattle.station.specs.declared.Operation.{Operation}
use Rattle.station.specs.declared.Operation.TheVariants.{Idle, Reading, Writing}
use Rattle.station.specs.declared.Answer.{Answer}
use Rattle.station.specs.declared.Answer.TheVariants.{Refused, Stopped, Opened, Offer as Offered, Done, Abandoned as Ended}
use Rattle.station.specs.Calls.{State, Outcome, confirm}
use Rattle.calibrated.specs.declared.InUnits.{InUnits}
use Rattle.calibrated.specs.declared.InUnits.TheVariants.{Same}
use Rattle.calibrated.specs.declared.OutcomeInUnits as Code
use Rattle.calibrated.specs.Readings.{Told, is_refused, units_for, answer_for, read_as, done_in, in_units_of, unit_tests, begin_in_units, confirm_in_units, MeetsInUnits}
use Rattle.station.specs.declared.Outcome as Station
use Rattle.station.specs.Promise.{Meets}
use Rattle.abi.specs.Told.{Small, Tells, Told as Said}
use Rattle.abi.proofs.Telling.{tells}
use Rattle.abi.specs.InUnits.{SmallIn, ToldIn, TellsIn}
use Rattle.abi.proofs.Meaning.{SameTold}
use Rattle.abi.proofs.SmallLaws.{unless-small, offer-small, confirm-small}
use native.Mathlib.Omega.{arith}

pub begin_in_units-small : (t : Tables) (narrow : (i : ℕ) → Fits w32 (get_or t.registers i 0)) (s : State) (v : ℕ) (c : Calibration) → Small (begin_in_units sound t s v c).answer
begin_in_units-small t narrow s v c = unless-small (unit_tests sound t s v c) s _ refl (λ _. offer-small t narrow reading _)

-- the begin, as a function of the operation in hand and of the calibration, which words stood for
pub tells-begun : (call : Operation → Calibration → Outcome) {taken stood : Operation} {made meant : Calibration} → taken ≡ stood → made ≡ meant
    → {kept marks : List ℕ} {given : Station.Outcome} → Meets (call taken made) kept marks given
    → {operation after : List ℕ} {answer words : List ℤ} {number : ℕ} → Said given.answer given.operation operation answer after words number
    → Tells (call stood meant) operation answer kept marks after words number
tells-begun call {stood = stood} {made = made} same alike {kept} {marks} meets {operation} {after} {answer} {words} {number} told =
    subst (λ (k : Calibration). Tells (call stood k) operation answer kept marks after words number) alike (tells (λ (o : Operation). call o made) same meets told)

-- ── a confirmation ──

failed-small : (z : ℤ) (c : Calibration) (n : ℕ) → n < 2 ^ 32 → SmallIn (read_as (converted z c) n)
unfolding read_as converted
failed-small z c n few = go (not (is_usable c)) (is_finite (product z c) && is_finite (in_units z c))
  where
    go : (u b : Bool) → SmallIn (read_as (cond u (Err Unusable) (cond b (Ok (in_units z c)) (Err Infinite))) n)
    go true b = omega arith
    go false true = few
    go false false = omega arith

in_units-small : (c : Calibration) (answer : Answer) → Small answer → SmallIn (in_units_of c answer)
unfolding in_units_of done_in
in_units-small c (Refused n) small = small
in_units-small c (Stopped n r) small = small
in_units-small c Opened small = tt
in_units-small c (Offered a) small = small
in_units-small c (Done value accesses) small = failed-small value c accesses small
in_units-small c Ended small = tt

told-small : (op : Operation) (c : Calibration) (answer : Answer) → Small answer → SmallIn (answer_for op c answer)
told-small Idle c answer small = small
told-small (Reading v step g) c answer small = in_units-small c answer small
told-small (Writing v step x) c answer small = small

pub confirm_in_units-small : (t : Tables) (narrow : (i : ℕ) → Fits w32 (get_or t.registers i 0)) (s : State) (byte : ℕ) (c : Calibration)
    → SmallIn (confirm_in_units sound t s byte c).answer
confirm_in_units-small t narrow s byte c = go (is_refused (confirm sound t s byte).answer || units_for s.operation t.variables c)
  where
    go : (b : Bool)
        → SmallIn (cond {A = Told} b (record { answer = answer_for s.operation c (confirm sound t s byte).answer; state = (confirm sound t s byte).state }) (record { answer = Same (Refused 53); state = s })).answer
    go true = told-small s.operation c (confirm sound t s byte).answer (confirm-small t narrow s byte)
    go false = omega arith

-- the call, as a function of the operation in hand and of the calibration, which words stood for
module _ (call : Operation → Calibration → Told) {taken stood : Operation} {made meant : Calibration} (same : taken ≡ stood) (alike : made ≡ meant)
    {kept marks : List ℕ} (given : Code.OutcomeInUnits) (meets : MeetsInUnits (call taken made) kept marks given) where
  pub tells-units : {operation after : List ℕ} {answer words : List ℤ} {number : ℕ}
      → ToldIn given.answer given.operation operation answer after words number
      → TellsIn (call stood meant) operation answer kept marks after words number
  tells-units {operation} {after} {answer} {words} {number} told =
      subst (λ (o : Operation). TellsIn (call o meant) operation answer kept marks after words number) same
      (subst (λ (c : Calibration). TellsIn (call taken c) operation answer kept marks after words number) alike
      (record {
        kept-is = meets.kept-is;
        marks-is = meets.marks-is;
        told =
            subst (λ (o : Operation). ToldIn (call taken made).answer o operation answer after words number) meets.operation-is
            (subst (λ (a : InUnits). ToldIn a given.operation operation answer after words number) meets.answer-is told);
      }))

pub units-small_by : {o : Told} {kept marks : List ℕ} (given : Code.OutcomeInUnits) → MeetsInUnits o kept marks given → SmallIn o.answer → SmallIn given.answer
units-small_by given meets small = subst SmallIn (sym meets.answer-is) small

-- ── no second answer ──

pub only_one-in_units : {o : Told} {lent : List ℕ} {old : List ℤ} {kept kept' marks marks' operation operation' : List ℕ} {answer answer' : List ℤ} {number number' : ℕ}
    → TellsIn o lent old kept marks operation answer number → TellsIn o lent old kept' marks' operation' answer' number'
    → SameTold kept kept' marks marks' operation operation' answer answer' number number'
only_one-in_units one two =
    record {
      records = one.kept-is ∙ sym two.kept-is;
      lists = one.marks-is ∙ sym two.marks-is;
      operations = one.told.operation-is ∙ sym two.told.operation-is;
      answers = one.told.answer-is ∙ sym two.told.answer-is;
      numbers = one.told.number_is ∙ sym two.told.number_is;
    }
