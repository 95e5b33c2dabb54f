-- Laws of readings in units at the station. Assumes nothing.
use Prim.Native.Nat.{ℕ, suc}
use lib.Dec.{ltb, eqb}
use lib.IntN.{ℤ}
use borrow.Author.Tests.{not-true}
use mathlib.Core.Path.{◌≡◌, refl, sym, ap, ◌∙◌, subst}
use mathlib.Core.Bool.{Bool, true, false, cond, not, ◌&&◌, ◌||◌, false≢true}
use mathlib.Core.List.{List, [], ◌∷◌, ◌++◌}
use Rattle.units.specs.declared.Calibration.{Calibration}
use Rattle.std.proofs.Common.{Result, Float}
use Rattle.units.specs.declared.unconverted.Unconverted.{Unconverted}
use Rattle.units.specs.Units.{converted}
use Rattle.tables.specs.declared.Part.TheVariants.{Read as reading, Write as writing}
use Rattle.tables.specs.View.{Tables, variable_count, variable_has}
use Rattle.logic.proofs.Tests.{and_left, and_right}
use Rattle.station.specs.declared.Operation.{Operation}
use Rattle.station.specs.declared.Operation.TheVariants.{Idle, Reading, Writing}
use Rattle.station.specs.declared.Answer.{Answer}
use Rattle.station.specs.declared.Answer.TheVariants.{Refused, Stopped, Opened, Offer as Offered, Done, Abandoned as Ended}
use Rattle.station.specs.declared.Outcome as Station
use Rattle.station.specs.Calls.{State, Outcome, Test, refused, unless, is_in_hand, is_long, is_allowed, is_last, mark_of, register_taken, write_access, keeping, write_on, confirmed, read_tests, begun_read, begin_read, confirm}
use Rattle.station.specs.Kept.{SameLists}
use Rattle.station.specs.Promise.{lent, Meets}
use Rattle.station.proofs.KeptLaws.{keeps}
use Rattle.calibrated.specs.declared.InUnits.{InUnits}
use Rattle.calibrated.specs.declared.OutcomeInUnits as Code
use Rattle.calibrated.specs.Readings.{is_refused, has_units, read_as, done_in, in_units_of, number_in, reading_in, begin_in_units, Told, told_for, units_for, answer_for, outcome_for, is_write, is_early, units_refused, refused_by, confirm_in_units, MeetsInUnits}

-- ── a begin ──

-- one test more behind the others: it is asked where the others do not refuse
one_more_lem : (tests : List Test) (b : Bool) (n : ℕ) (s : State) (o : Outcome) → is_refused o.answer ≡ false
    → unless (tests ++ ((not b, n) ∷ [])) s o ≡ cond (is_refused (unless tests s o).answer || b) (unless tests s o) (refused n s)
unfolding unless
one_more_lem [] true n s o offered = rw offered
one_more_lem [] false n s o offered = rw offered
one_more_lem (test ∷ tests) b n s o offered = go test.0 (one_more_lem tests b n s o offered)
  where
    go : (c : Bool) → unless (tests ++ ((not b, n) ∷ [])) s o ≡ cond (is_refused (unless tests s o).answer || b) (unless tests s o) (refused n s)
        → cond c (refused test.1 s) (unless (tests ++ ((not b, n) ∷ [])) s o)
        ≡ cond (is_refused (cond c (refused test.1 s) (unless tests s o)).answer || b) (cond c (refused test.1 s) (unless tests s o)) (refused n s)
    go true e = refl
    go false e = e

pub by_cases : (sound : Tables → Bool) (t : Tables) (s : State) (v : ℕ) (c : Calibration)
    → begin_in_units sound t s v c ≡ cond (is_refused (begin_read sound t s v).answer || has_units t.variables v c) (begin_read sound t s v) (refused 53 s)
by_cases sound t s v c = one_more_lem (read_tests sound t s v) (has_units t.variables v c) 53 s (begun_read t s v) refl

-- for the code: the two tests, and what each way out answers
module _ (sound : Tables → Bool) (t : Tables) (kept marks : List ℕ) (op : Operation) (v : ℕ) (c : Calibration) {given : Station.Outcome}
    (meets : Meets (begin_read sound t (lent kept marks op) v) kept marks given) where
  decided : {b : Bool} → (is_refused given.answer || has_units t.variables v c) ≡ b
      → begin_in_units sound t (lent kept marks op) v c ≡ cond b (begin_read sound t (lent kept marks op) v) (refused 53 (lent kept marks op))
  decided tested = by_cases sound t (lent kept marks op) v c ∙ rw (← meets.answer-is, tested)

  pub read-begun : (is_refused given.answer || has_units t.variables v c) ≡ true → Meets (begin_in_units sound t (lent kept marks op) v c) kept marks given
  read-begun tested = subst (λ (o : Outcome). Meets o kept marks given) (sym (decided tested)) meets

  pub without-units : (is_refused given.answer || has_units t.variables v c) ≡ false
      → Meets (begin_in_units sound t (lent kept marks op) v c) kept marks (record { operation = op; answer = Refused 53 })
  without-units tested =
      subst (λ (o : Outcome). Meets o kept marks (record { operation = op; answer = Refused 53 })) (sym (decided tested))
      (record { answer-is = refl; number_is = refl; values_are = refl; operation-is = refl; kept-is = refl; marks-is = refl })

-- ── a confirmation ──

-- an outcome that is the code's of what is told, with the lists
met : (o : Told) (kept marks : List ℕ) (given : Code.OutcomeInUnits) → given.answer ≡ o.answer → given.operation ≡ o.state.operation
    → kept ≡ o.state.kept → marks ≡ o.state.marks → MeetsInUnits o kept marks given
met o kept marks given answer operation record_kept marks-kept =
    record { answer-is = answer; number_is = ap number_in answer; reading-is = ap reading_in answer; operation-is = operation; kept-is = record_kept; marks-is = marks-kept }

-- told from the station's outcome: 53, too, leaves the lists where the station does
told-met : (units : Bool) (s : State) (c : Calibration) {o : Outcome} {kept marks : List ℕ} {outcome : Station.Outcome} → Meets o kept marks outcome
    → ((is_refused o.answer || units) ≡ false → SameLists s o.state) → {given : Code.OutcomeInUnits} → given ≡ outcome_for units s.operation c outcome
    → MeetsInUnits (told_for units s c o) kept marks given
told-met units s c {o} {kept} {marks} {outcome} meets same {given} is =
    subst (MeetsInUnits (told_for units s c o) kept marks) (sym (is ∙ by_answer))
    (go (is_refused o.answer || units) same)
  where
    by_answer : outcome_for units s.operation c outcome
        ≡ cond (is_refused o.answer || units) (record { operation = outcome.operation; answer = answer_for s.operation c o.answer })
        (record { operation = s.operation; answer = InUnits.Same (Refused 53) })
    by_answer = rw meets.answer-is

    go : (b : Bool) → (b ≡ false → SameLists s o.state)
        → MeetsInUnits (cond b (record { answer = answer_for s.operation c o.answer; state = o.state }) (record { answer = InUnits.Same (Refused 53); state = s })) kept marks
        (cond b (record { operation = outcome.operation; answer = answer_for s.operation c o.answer }) (record { operation = s.operation; answer = InUnits.Same (Refused 53) }))
    go true keep = met _ kept marks _ refl meets.operation-is meets.kept-is meets.marks-is
    go false keep = met _ kept marks _ refl refl (meets.kept-is ∙ (keep refl).record_kept) (meets.marks-is ∙ (keep refl).marks-kept)

module _ (sound : Tables → Bool) (t : Tables) (held marked : List ℕ) (byte : ℕ) (c : Calibration) where
  -- an operation that is no write changes neither list
  read_keeps : (op : Operation) → is_write op ≡ false → SameLists (lent held marked op) (confirm sound t (lent held marked op) byte).state
  read_keeps op reads = (keeps sound t (lent held marked op)).read-confirmed byte (λ v step in_hand_law. false≢true (sym reads ∙ ap is_write in_hand_law.is))

  -- a write with units is not refused by 53
  pub confirmed-met : (op : Operation) {w u : Bool} → w ≡ is_write op → u ≡ units_for op t.variables c → (w && not u) ≡ false
      → {kept marks : List ℕ} {outcome : Station.Outcome} → Meets (confirm sound t (lent held marked op) byte) kept marks outcome
      → {given : Code.OutcomeInUnits} → given ≡ outcome_for u op c outcome → MeetsInUnits (confirm_in_units sound t (lent held marked op) byte c) kept marks given
  confirmed-met op {w} {u} w-is u-is tested meets is =
      rw (← u-is) (told-met u (lent held marked op) c meets (λ none. read_keeps op (sym w-is ∙ no_write w u (is_refused (confirm sound t (lent held marked op) byte).answer) tested none)) is)
    where
      no_write : (a b d : Bool) → (a && not b) ≡ false → (d || b) ≡ false → a ≡ false
      no_write true true d e f = absurd (false≢true (sym f ∙ any d))
        where
          any : (x : Bool) → (x || true) ≡ true
          any true = refl
          any false = refl
      no_write true false d e f = absurd (false≢true (sym e))
      no_write false b d e f = refl

-- ── a write without units ──

-- 20 to 22, which every call tests first, and then this
module _ (sound : Tables → Bool) (t : Tables) (s : State) where
  abbrev first : Bool → Bool → Bool → Outcome → Outcome
  first a b d o = cond a (refused 20 s) (cond b (refused 21 s) (cond d (refused 22 s) o))

  -- what a begin tests behind them is none of these
  late-begin : (a b d e : Bool) (o : Outcome) → is_early o.answer ≡ false
      → is_early (cond a (refused 23 s) (cond b (refused 25 s) (cond d (refused 26 s) (cond e (refused 28 s) o)))).answer ≡ false
  late-begin true b d e o h = refl
  late-begin false true d e o h = refl
  late-begin false false true e o h = refl
  late-begin false false false true o h = refl
  late-begin false false false false o h = h

  early-same : (a b d : Bool) (o : Outcome) → is_early o.answer ≡ false → is_early (first a b d o).answer ≡ true → first a b d o ≡ first a b d (refused 53 s)
  early-same true b d o late h = refl
  early-same false true d o late h = refl
  early-same false false true o late h = refl
  early-same false false false o late h = absurd (false≢true (sym late ∙ h))

  late_53 : (a b d : Bool) (o : Outcome) → is_early (first a b d o).answer ≡ false → refused 53 s ≡ first a b d (refused 53 s)
  late_53 true b d o h = absurd (false≢true (sym h))
  late_53 false true d o h = absurd (false≢true (sym h))
  late_53 false false true o h = absurd (false≢true (sym h))
  late_53 false false false o h = refl

  module _ (v : ℕ) {r : Bool} {answer : Answer} (is : answer ≡ (begin_read sound t s v).answer) (r-is : r ≡ is_early answer) where
    after : Outcome
    unfolding unless
    after = unless ((is_in_hand s.operation, 23) ∷ (not (ltb v (variable_count t)), 25) ∷ (not (variable_has t reading v), 26) ∷ (not (eqb (mark_of s v) 0), 28) ∷ []) s (begun_read t s v)

    is-late : is_early after.answer ≡ false
    unfolding after unless
    is-late = late-begin (is_in_hand s.operation) (not (ltb v (variable_count t))) (not (variable_has t reading v)) (not (eqb (mark_of s v) 0)) (begun_read t s v) refl

    pub early-refused : r ≡ true → record { operation = s.operation; answer = InUnits.Same answer } ≡ refused_by (units_refused sound t s)
    unfolding after unless
    early-refused h =
        ap (λ (a : Answer). record { operation = s.operation; answer = InUnits.Same a })
        (is ∙ ap (λ (o : Outcome). o.answer)
        (early-same (not (sound t)) (not (is_long t s)) (not (is_allowed t s.operation)) after is-late (ap is_early (sym is) ∙ sym r-is ∙ h)))
        ∙ in_hand_law (not (sound t)) (not (is_long t s)) (not (is_allowed t s.operation))
      where
        in_hand_law : (a b d : Bool) → record { operation = s.operation; answer = InUnits.Same (first a b d (refused 53 s)).answer } ≡ refused_by (first a b d (refused 53 s))
        in_hand_law true b d = refl
        in_hand_law false true d = refl
        in_hand_law false false true = refl
        in_hand_law false false false = refl

    pub late-refused : r ≡ false → record { operation = s.operation; answer = InUnits.Same (Refused 53) } ≡ refused_by (units_refused sound t s)
    unfolding after unless
    late-refused h = ap refused_by (late_53 (not (sound t)) (not (is_long t s)) (not (is_allowed t s.operation)) after (ap is_early (sym is) ∙ sym r-is ∙ h))

module _ (sound : Tables → Bool) (t : Tables) (held marked : List ℕ) (byte : ℕ) (c : Calibration) where
  told-refused : (v step x : ℕ) (a b d : Bool) (o : Outcome) → is_refused o.answer ≡ false
      → let s : State = lent held marked (Writing v step x) in
      MeetsInUnits (told_for false s c (first sound t s a b d o)) held marked (refused_by (first sound t s a b d (refused 53 s)))
  told-refused v step x true b d o h = met _ held marked _ refl refl refl refl
  told-refused v step x false true d o h = met _ held marked _ refl refl refl refl
  told-refused v step x false false true o h = met _ held marked _ refl refl refl refl
  told-refused v step x false false false o h = rw h (met _ held marked _ refl refl refl refl)

  goes_on : (last : Bool) (at : State) (v step x : ℕ) → is_refused (write_on last t at v step x).answer ≡ false
  goes_on true at v step x = refl
  goes_on false at v step x = refl

  pub write-refused : (op : Operation) {w u : Bool} → w ≡ is_write op → u ≡ units_for op t.variables c → (w && not u) ≡ true
      → {given : Code.OutcomeInUnits} → given ≡ refused_by (units_refused sound t (lent held marked op)) → MeetsInUnits (confirm_in_units sound t (lent held marked op) byte c) held marked given
  unfolding unless
  write-refused Idle {w} {u} w-is u-is tested is = absurd (false≢true (sym w-is ∙ and_left w (not u) tested))
  write-refused (Reading v step g) {w} {u} w-is u-is tested is = absurd (false≢true (sym w-is ∙ and_left w (not u) tested))
  write-refused (Writing v step x) {w} {u} w-is u-is tested is =
      rw (← u-is, not-true u (and_right w (not u) tested), is)
      (told-refused v step x (not (sound t)) (not (is_long t s)) (not (is_allowed t (Writing v step x))) (confirmed t s (Writing v step x) byte)
      (goes_on (is_last t writing v (suc step)) (keeping s (register_taken t writing v step) (write_access t s v step x).byte) v (suc step) x))
    where
      s : State
      s = lent held marked (Writing v step x)

-- ── for the code ──

pub done-as : (z value : ℤ) (n : ℕ) (c : Calibration) (a : Result Float Unconverted) → a ≡ converted z c → z ≡ value → read_as a n ≡ done_in value n c
unfolding done_in
done-as z value n c a is same = ap (λ (x : Result Float Unconverted). read_as x n) (is ∙ ap (λ (y : ℤ). converted y c) same)

-- an answer that is not done is the station's
pub same-unless-done : (c : Calibration) (answer : Answer) → ((z : ℤ) (n : ℕ) → answer ≡ Done z n → ⊥) → InUnits.Same answer ≡ in_units_of c answer
unfolding in_units_of
same-unless-done c (Offered a) none = refl
same-unless-done c (Done z n) none = absurd (none z n refl)
same-unless-done c Opened none = refl
same-unless-done c Ended none = refl
same-unless-done c (Refused n) none = refl
same-unless-done c (Stopped n r) none = refl
