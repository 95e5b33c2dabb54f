-- What words mean: an operation comes back from its words, no two answers have the same ones, words that are no
-- operation are refused by 22, and no call's promise leaves room for a second answer.
-- Assumes nothing.
use Prim.Native.Nat.{ℕ, ◌≤◌, ◌<◌, ◌^◌}
use mathlib.Core.Path.{◌≡◌, ◌∙◌, refl, sym, ap}
use mathlib.Core.Bool.{Bool, true, false, cond}
use mathlib.Core.List.{List, [], ◌∷◌}
use native.Mathlib.Omega.{arith}
use native.Mathlib.Nat.{not-suc-le-zero, le_of_suc-le-suc}
use lib.Dec.{eqb}
use lib.IntN.{ℤ, pos, nat_abs}
use lib.ListN.{length, get_or}
use borrow.Author.Tests.{le-ltb, lt-ltb, ne_eqb}
use Rattle.tables.specs.declared.Part.{Part}
use Rattle.tables.specs.declared.Part.TheVariants.{Read as reading, Write as writing}
use Rattle.tables.specs.View.{Tables, part_no, variable_count}
use Rattle.station.specs.declared.Operation.{Operation}
use Rattle.station.specs.declared.Operation.TheVariants.{Idle, Reading, Writing}
use Rattle.station.specs.declared.Answer.{Answer}
use Rattle.station.specs.declared.Answer.TheVariants.{Refused, Stopped, Opened, Offer as Offered, Done, Abandoned as Ended}
use Rattle.station.specs.Calls.{State, Outcome, Test, refused, unless, is_long, is_underway, is_allowed, checked}
use Rattle.loader.specs.Load.{Loaded}
use Rattle.abi.specs.Loading.{TellsLoaded}
use Rattle.abi.specs.Told.{Tells}
use Rattle.abi.specs.Words.{written, operation_words, no_operation, of_kind, operation_of, answer_words}

-- ── the operation in hand ──

pub operation-back : (operation : Operation) (lent : List ℕ) → 4 ≤ length lent → operation_of (written (operation_words operation) lent) ≡ operation
unfolding operation_of of_kind written
operation-back operation [] h = absurd (not-suc-le-zero h)
operation-back operation (a ∷ []) h = absurd (not-suc-le-zero (le_of_suc-le-suc h))
operation-back operation (a ∷ b ∷ []) h = absurd (not-suc-le-zero (le_of_suc-le-suc (le_of_suc-le-suc h)))
operation-back operation (a ∷ b ∷ c ∷ []) h = absurd (not-suc-le-zero (le_of_suc-le-suc (le_of_suc-le-suc (le_of_suc-le-suc h))))
operation-back Idle (a ∷ b ∷ c ∷ d ∷ lent) h = rw (le-ltb (length (0 ∷ 0 ∷ 0 ∷ 0 ∷ lent)) 4 h)
operation-back (Reading v step g) (a ∷ b ∷ c ∷ d ∷ lent) h = rw (le-ltb (length (1 ∷ v ∷ step ∷ g ∷ lent)) 4 h)
operation-back (Writing v step x) (a ∷ b ∷ c ∷ d ∷ lent) h = rw (le-ltb (length (2 ∷ v ∷ step ∷ x ∷ lent)) 4 h)

-- a missing word, and a kind over 2
pub too_few : (words : List ℕ) → length words < 4 → operation_of words ≡ no_operation
unfolding operation_of
too_few words h = rw (lt-ltb (length words) 4 h)

pub no_kind : (kind variable step bits : ℕ) → 2 < kind → of_kind kind variable step bits ≡ no_operation
unfolding of_kind
no_kind kind variable step bits h = rw (ne_eqb kind 0 (λ e. omega arith), ne_eqb kind 1 (λ e. omega arith), ne_eqb kind 2 (λ e. omega arith))

-- no tables of 32-bit words allow such an operation
never-allowed : (t : Tables) → variable_count t < 2 ^ 32 → is_allowed t no_operation ≡ false
unfolding is_allowed is_underway
never-allowed t h = rw (le-ltb (2 ^ 32) (variable_count t) (omega arith))

-- so every begin, confirm and abandon, each of which tests 20, 21 and 22 first, refuses it by 22 and leaves everything
pub by_22 : (sound : Tables → Bool) (t : Tables) (s : State) (tests : List Test) (o : Outcome) → sound t ≡ true → is_long t s ≡ true → variable_count t < 2 ^ 32
    → s.operation ≡ no_operation → unless (checked sound t s tests) s o ≡ refused 22 s
unfolding unless
by_22 sound t s tests o ok long narrow none =
    rw (ok, long, ap (is_allowed t) none ∙ never-allowed t narrow)

-- ── the answer ──

abbrev part_of : ℕ → Part
part_of n = cond (eqb n 0) reading writing

part-back : (part : Part) → part_of (part_no part) ≡ part
part-back reading = refl
part-back writing = refl

abbrev of_words : ℕ → ℤ → ℤ → ℤ → ℤ → Answer
of_words kind a b c d =
    cond (eqb kind 0) (Refused (nat_abs a))
    (cond (eqb kind 1) Opened
    (cond (eqb kind 2) (Offered (record { direction = part_of (nat_abs a); parameter = nat_abs b; offset = nat_abs c; byte = nat_abs d }))
    (cond (eqb kind 3) (Done a (nat_abs b))
    (cond (eqb kind 4) Ended
    (Stopped (nat_abs a) (nat_abs b))))))

abbrev answer_of : List ℤ → Answer
answer_of words = of_words (nat_abs (word 0)) (word 1) (word 2) (word 3) (word 4)
  where
    word : ℕ → ℤ
    word i = get_or words i (pos 0)

answer_back : (answer : Answer) → answer_of (answer_words answer) ≡ answer
answer_back (Refused number) = refl
answer_back Opened = refl
answer_back (Offered access) =
    ap (λ (part : Part). Offered (record { direction = part; parameter = access.parameter; offset = access.offset; byte = access.byte })) (part-back access.direction)
answer_back (Done value accesses) = refl
answer_back Ended = refl
answer_back (Stopped number register) = refl

pub told_apart_lem : (a b : Answer) → answer_words a ≡ answer_words b → a ≡ b
told_apart_lem a b same = sym (answer_back a) ∙ ap answer_of same ∙ answer_back b

-- ── no second answer ──

-- what a call of the station may leave is one record, one list of marks, one operation, one answer and one number
pub record SameTold (kept kept' marks marks' operation operation' : List ℕ) (answer answer' : List ℤ) (number number' : ℕ) : Type 0 where
  pub records : kept ≡ kept'
  pub lists : marks ≡ marks'
  pub operations : operation ≡ operation'
  pub answers : answer ≡ answer'
  pub numbers : number ≡ number'

pub only_one-told : {o : Outcome} {lent : List ℕ} {old : List ℤ} {kept kept' marks marks' operation operation' : List ℕ} {answer answer' : List ℤ} {number number' : ℕ}
    → Tells o lent old kept marks operation answer number → Tells o lent old kept' marks' operation' answer' number'
    → SameTold kept kept' marks marks' operation operation' answer answer' number number'
only_one-told one two =
    record {
      records = one.kept-is ∙ sym two.kept-is;
      lists = one.marks-is ∙ sym two.marks-is;
      operations = one.operation-is ∙ sym two.operation-is;
      answers = one.answer-is ∙ sym two.answer-is;
      numbers = one.number_is ∙ sym two.number_is;
    }

-- and what a load may leave are three tables, one answer and one number
pub record SameLoaded (parameters parameters' registers registers' variables variables' answer answer' : List ℕ) (number number' : ℕ) : Type 0 where
  pub same-parameters : parameters ≡ parameters'
  pub same-registers : registers ≡ registers'
  pub same-variables : variables ≡ variables'
  pub answers : answer ≡ answer'
  pub numbers : number ≡ number'

pub only_one-loaded : {l : Loaded} {old parameters parameters' registers registers' variables variables' answer answer' : List ℕ} {number number' : ℕ}
    → TellsLoaded l old parameters registers variables answer number → TellsLoaded l old parameters' registers' variables' answer' number'
    → SameLoaded parameters parameters' registers registers' variables variables' answer answer' number number'
only_one-loaded one two =
    record {
      same-parameters = one.parameters-are ∙ sym two.parameters-are;
      same-registers = one.registers-are ∙ sym two.registers-are;
      same-variables = one.variables-are ∙ sym two.variables-are;
      answers = one.told.answer-is ∙ sym two.told.answer-is;
      numbers = one.told.number_is ∙ sym two.told.number_is;
    }
