-- Each call is refused with the lowest number whose test holds, and with none where no test holds; a refusal leaves
-- everything as it was. Assumes nothing.
use Prim.Native.Nat.{ℕ, suc}
use mathlib.Core.Path.{◌≡◌, ◌∙◌, refl, sym, ap, subst}
use mathlib.Core.Bool.{Bool, true, false, true≢false, cond, not}
use mathlib.Core.List.{List, [], ◌∷◌}
use mathlib.Core.Option.{Option, none, some}
use lib.IntN.{ℤ, pos}
use Rattle.tables.specs.declared.Part.TheVariants.{Read as reading, Write as writing}
use Rattle.tables.specs.View.{Tables, obeys}
use Rattle.station.specs.declared.Operation.{Operation}
use Rattle.station.specs.declared.Answer.TheVariants.{Abandoned as Ended}
use Rattle.station.specs.declared.Outcome as Code
use Rattle.station.specs.Calls.{Idle, Reading, Writing, State, Outcome, Test, refused, contradicted, in_hand_lem, unless, checked, read_tests, write_tests, opening_tests, end_tests, confirm_tests, is_in_hand, is_allowed, confirmed, abandoned, read_on, write_on, is_last, gather, register_taken, keeping, write_access, opening, begin_read, begin_write, confirm, abandon}
use Rattle.station.specs.Answers.{refusal_of, values_of, lowest_of, CanGive, ends, register_read, Refuses}
use Rattle.station.specs.Promise.{Meets}

abbrev IsNone : Option ℕ → Type 0
IsNone none = Unit {0}
IsNone (some n) = ⊥

pub some≢none : (n : ℕ) → ◌≡◌ {A = Option ℕ} (some n) none → ⊥
some≢none n e = subst IsNone (sym e) tt

-- ── an outcome behind tests ──

abbrev pub NoneHolds : List Test → Type 0
NoneHolds [] = Unit {0}
NoneHolds (test ∷ tests) = (test.0 ≡ false) × NoneHolds tests

-- is a refusal, or what follows when none of them holds
pub unless-cases : (P : Outcome → Type 0) (tests : List Test) (s : State) (o : Outcome)
    → ((n : ℕ) → P (refused n s)) → (NoneHolds tests → P o) → P (unless tests s o)
unfolding unless
unless-cases P [] s o at-refusal passed = passed tt
unless-cases P (test ∷ tests) s o at-refusal passed =
    go test.0 refl (λ first. unless-cases P tests s o at-refusal (λ rest. passed (first, rest)))
  where
    go : (b : Bool) → test.0 ≡ b → (test.0 ≡ false → P (unless tests s o)) → P (cond b (refused test.1 s) (unless tests s o))
    go true e rest = at-refusal test.1
    go false e rest = rest e

lowest-refuses : (tests : List Test) (s : State) (o : Outcome) → refusal_of o.answer ≡ none → refusal_of (unless tests s o).answer ≡ lowest_of tests
unfolding unless lowest_of
lowest-refuses [] s o passes = passes
lowest-refuses (test ∷ tests) s o passes = go test.0 (lowest-refuses tests s o passes)
  where
    go : (b : Bool) → refusal_of (unless tests s o).answer ≡ lowest_of tests
        → refusal_of (cond b (refused test.1 s) (unless tests s o)).answer ≡ cond b (some test.1) (lowest_of tests)
    go true rest = refl
    go false rest = rest

-- none of these refusals ends an operation
abbrev NoneEnds : List Test → Type 0
NoneEnds [] = Unit {0}
NoneEnds (test ∷ tests) = (ends test.1 ≡ false) × NoneEnds tests

number_in : Option ℕ → ℕ
number_in none = 0
number_in (some n) = n

-- a refusal by one of them, or what follows
unless-leaves : (P : Outcome → Type 0) (tests : List Test) (s : State) (o : Outcome) → NoneEnds tests
    → ((n : ℕ) → ends n ≡ false → P (refused n s)) → P o → P (unless tests s o)
unfolding unless
unless-leaves P [] s o stay at-refusal passed = passed
unless-leaves P (test ∷ tests) s o stay at-refusal passed = go test.0 (unless-leaves P tests s o stay.1 at-refusal passed)
  where
    go : (b : Bool) → P (unless tests s o) → P (cond b (refused test.1 s) (unless tests s o))
    go true rest = at-refusal test.1 stay.0
    go false rest = rest

module _ (t : Tables) (s : State) where
  -- what a refusal leaves and gives
  record Left (o : Outcome) (n : ℕ) : Type 0 where
    leaves : o.state ≡ cond (ends n) (in_hand_lem s Idle) s
    gives : values_of o.answer ≡ cond (ends n) (pos (register_read t s.operation) ∷ []) []

  abbrev LeftBy : Outcome → Type 0
  LeftBy o = (n : ℕ) → refusal_of o.answer ≡ some n → Left o n

  refused-leaves : (n : ℕ) → ends n ≡ false → LeftBy (refused n s)
  unfolding number_in
  refused-leaves n stays m e =
      let same : ends m ≡ false = ap (λ (x : Option ℕ). ends (number_in x)) (sym e) ∙ stays in
      record { leaves = rw same refl; gives = rw same refl }

  refuses-as : (tests : List Test) (o : Outcome) → refusal_of o.answer ≡ lowest_of tests → LeftBy o → Refuses t tests s o
  refuses-as tests o number left = record { number = number; leaves = λ n e. (left n e).leaves; offers-none = λ n e. (left n e).gives }

  refuses : (tests : List Test) (o : Outcome) → NoneEnds tests → refusal_of o.answer ≡ none → Refuses t tests s (unless tests s o)
  refuses tests o stay passes =
      refuses-as tests (unless tests s o) (lowest-refuses tests s o passes)
      (unless-leaves LeftBy tests s o stay refused-leaves (λ n e. absurd (some≢none n (sym e ∙ passes))))

-- ── the calls ──

idle-allows : (t : Tables) (op : Operation) → is_in_hand op ≡ false → is_allowed t op ≡ true
unfolding is_allowed
idle-allows t Idle e = refl
idle-allows t (Reading v n g) e = absurd (true≢false e)
idle-allows t (Writing v n x) e = absurd (true≢false e)

module _ (sound : Tables → Bool) (t : Tables) where
  pub can_give : (s : State) → CanGive sound t s
  can_give s =
      record {
        an_opening = λ power. refl;
        a_read = λ v. refl;
        a_write = λ v z. refl;
        a_confirmation = λ byte. refl;
        an_end = refl;
        idle-allowed = idle-allows t s.operation;
      }

  pub opening-refuses : (power : List ℕ) (s : State) → Refuses t (opening_tests sound t power s) s (opening sound t power s)
  opening-refuses power s = refuses t s (opening_tests sound t power s) _ (refl, (refl, tt)) refl

  pub begin_read-refuses : (s : State) (v : ℕ) → Refuses t (read_tests sound t s v) s (begin_read sound t s v)
  begin_read-refuses s v = refuses t s (read_tests sound t s v) _ (refl, (refl, (refl, (refl, (refl, (refl, (refl, tt))))))) refl

  pub begin_write-refuses : (s : State) (v : ℕ) (z : ℤ) → Refuses t (write_tests sound t s v z) s (begin_write sound t s v z)
  begin_write-refuses s v z = refuses t s (write_tests sound t s v z) _ (refl, (refl, (refl, (refl, (refl, (refl, (refl, (refl, tt)))))))) refl

  -- an operation that goes on, or is done at the last, is not refused
  goes_on : (on : Bool → Outcome) → refusal_of (on true).answer ≡ none → refusal_of (on false).answer ≡ none → (last : Bool) → refusal_of (on last).answer ≡ none
  goes_on on done offered true = done
  goes_on on done offered false = offered

  -- a test that fails may stand last
  also_52 : (s : State) (d : Bool) (o : Outcome) → Refuses t (checked sound t s ((d, 24) ∷ [])) s o → Refuses t (checked sound t s ((d, 24) ∷ (false, 52) ∷ [])) s o
  unfolding lowest_of
  also_52 s d o r = record { number = r.number; leaves = r.leaves; offers-none = r.offers-none }

  -- 52 is the last test of a confirmed read, and with the byte that does not obey the outcome
  lowest-stops : (a b c : Bool) (s : State) (r : ℕ)
      → refusal_of (unless ((a, 20) ∷ (b, 21) ∷ (c, 22) ∷ []) s (contradicted r s)).answer ≡ lowest_of ((a, 20) ∷ (b, 21) ∷ (c, 22) ∷ (false, 24) ∷ (true, 52) ∷ [])
  unfolding unless lowest_of
  lowest-stops true b c s r = refl
  lowest-stops false true c s r = refl
  lowest-stops false false true s r = refl
  lowest-stops false false false s r = refl

  stopped-leaves : (s : State) (r : ℕ) → r ≡ register_read t s.operation → LeftBy t s (contradicted r s)
  unfolding number_in
  stopped-leaves s r is n e =
      let same : ends n ≡ true = ap (λ (x : Option ℕ). ends (number_in x)) (sym e) in
      record { leaves = rw same refl; gives = rw same (ap (λ (r : ℕ). pos r ∷ []) is) }

  confirm_read-by : (k m : List ℕ) (v n g byte : ℕ) (obeyed : Bool)
      → let s : State = record { kept = k; marks = m; operation = Reading v n g } in
      Refuses t (checked sound t s ((false, 24) ∷ (not obeyed, 52) ∷ [])) s
      (unless (checked sound t s []) s
      (cond obeyed (read_on (is_last t reading v (suc n)) t s v (suc n) (gather t v g (register_taken t reading v n) byte)) (contradicted (register_taken t reading v n) s)))
  unfolding unless
  confirm_read-by k m v n g byte true =
      let s : State = record { kept = k; marks = m; operation = Reading v n g } in
      also_52 s false _
      (refuses t s (end_tests sound t s) _ (refl, (refl, (refl, (refl, tt))))
      (goes_on (λ last. read_on last t s v (suc n) (gather t v g (register_taken t reading v n) byte)) refl refl (is_last t reading v (suc n))))
  confirm_read-by k m v n g byte false =
      let s : State = record { kept = k; marks = m; operation = Reading v n g } in
      refuses-as t s _ _ (lowest-stops _ _ _ s (register_taken t reading v n))
      (unless-leaves (LeftBy t s) (checked sound t s []) s _ (refl, (refl, (refl, tt))) (refused-leaves t s) (stopped-leaves s (register_taken t reading v n) refl))

  -- 24 is the outcome on an idle station
  confirm-by : (k m : List ℕ) (op : Operation) (byte : ℕ)
      → let s : State = record { kept = k; marks = m; operation = op } in
      Refuses t (confirm_tests sound t s byte) s (unless (checked sound t s []) s (confirmed t s op byte))
  unfolding unless lowest_of
  confirm-by k m Idle byte =
      let s : State = record { kept = k; marks = m; operation = Idle } in
      also_52 s true _ (refuses t s (end_tests sound t s) (record { answer = Ended; state = s }) (refl, (refl, (refl, (refl, tt)))) refl)
  confirm-by k m (Reading v n g) byte = confirm_read-by k m v n g byte (obeys t reading (register_taken t reading v n) byte)
  confirm-by k m (Writing v n x) byte =
      let s : State = record { kept = k; marks = m; operation = Writing v n x } in
      also_52 s false _
      (refuses t s (end_tests sound t s) _ (refl, (refl, (refl, (refl, tt))))
      (goes_on (λ last. write_on last t (keeping s (register_taken t writing v n) (write_access t s v n x).byte) v (suc n) x) refl refl (is_last t writing v (suc n))))

  pub confirm-refuses : (s : State) (byte : ℕ) → Refuses t (confirm_tests sound t s byte) s (confirm sound t s byte)
  confirm-refuses s byte = confirm-by s.kept s.marks s.operation byte

  abandon-by : (k m : List ℕ) (op : Operation)
      → let s : State = record { kept = k; marks = m; operation = op } in Refuses t (end_tests sound t s) s (unless (checked sound t s []) s (abandoned s op))
  unfolding unless
  abandon-by k m Idle =
      let s : State = record { kept = k; marks = m; operation = Idle } in
      refuses t s (end_tests sound t s) (record { answer = Ended; state = s }) (refl, (refl, (refl, (refl, tt)))) refl
  abandon-by k m (Reading v n g) =
      let s : State = record { kept = k; marks = m; operation = Reading v n g } in
      refuses t s (end_tests sound t s) _ (refl, (refl, (refl, (refl, tt)))) refl
  abandon-by k m (Writing v n x) =
      let s : State = record { kept = k; marks = m; operation = Writing v n x } in
      refuses t s (end_tests sound t s) _ (refl, (refl, (refl, (refl, tt)))) refl

  pub abandon-refuses : (s : State) → Refuses t (end_tests sound t s) s (abandon sound t s)
  abandon-refuses s = abandon-by s.kept s.marks s.operation

-- ── a call that keeps its promise is refused so; record and marks are as they were, and the operation but for 52 ──

pub promised_number : {t : Tables} {tests : List Test} {s : State} {o : Outcome} {kept marks : List ℕ} {given : Code.Outcome} → Refuses t tests s o → Meets o kept marks given
    → refusal_of given.answer ≡ lowest_of tests
promised_number r m = m.number_is ∙ r.number

-- the lists are the same whether the operation ends or not
either-lists : (b : Bool) (s : State)
    → ((cond b (in_hand_lem s Idle) s).kept ≡ s.kept) × ((cond b (in_hand_lem s Idle) s).marks ≡ s.marks) × ((cond b (in_hand_lem s Idle) s).operation ≡ cond b Idle s.operation)
either-lists true s = (refl, refl, refl)
either-lists false s = (refl, refl, refl)

pub promised_leaves : {t : Tables} {tests : List Test} {s : State} {o : Outcome} {kept marks : List ℕ} {given : Code.Outcome} → Refuses t tests s o → Meets o kept marks given
    → (n : ℕ) → refusal_of given.answer ≡ some n → (kept ≡ s.kept) × (marks ≡ s.marks) × (given.operation ≡ cond (ends n) Idle s.operation)
promised_leaves {s = s} r m n e =
    let same = r.leaves n (sym m.number_is ∙ e) in
    let lists = either-lists (ends n) s in (
      m.kept-is ∙ ap (λ (s : State). s.kept) same ∙ lists.0,
      m.marks-is ∙ ap (λ (s : State). s.marks) same ∙ lists.1,
      m.operation-is ∙ ap (λ (s : State). s.operation) same ∙ lists.2,
    )
