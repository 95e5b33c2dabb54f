-- How the calls that judge a variable come together.
use Prim.Native.Nat.{ℕ, ◌+◌, ◌≤◌, min}
use native.Mathlib.Nat.{min-eq_left, min-eq_right}
use native.Mathlib.Omega.{arith}
use mathlib.Core.Path.{◌≡◌, refl, sym, ◌∙◌}
use mathlib.Core.Bool.{Bool, true, false, ◌&&◌, cond}
use mathlib.Core.List.{List}
use lib.Dec.{eqb, leb}
use lib.Seq.{get_or-set_other}
use borrow.Author.Tests.{leb-true, leb-false, eqb-true, eqb-false}
use Rattle.syntax.specs.declared.variable.Variable.{Variable}
use Rattle.tables.specs.Every.{every}
use Rattle.tables.specs.Rules.{variable_shape, variable_fault}
use Rattle.tables.specs.Tables.{count_of, variable_at, variable_part}
use Rattle.tables.specs.Scan.{Mapped, enters_of}
use Rattle.tables.specs.Marks.{marks}
use Rattle.rules.specs.Words.{word_of, written}
use Rattle.rules.specs.Lists.{list_no, part_words}
use Rattle.rules.specs.declared.lists.Given.{Given}
use Rattle.rules.specs.declared.lists.Given.TheVariants.{First, Second}
use Rattle.syntax.specs.Variable.{VariableRead}
use Rattle.std.specs.Option.{is_none}
use Rattle.std.specs.Prelude.{Option, Some, None}
use Rattle.rules.specs.declared.fault.Fault.{Fault}
use Rattle.rules.specs.declared.declared.Judging.{Judging}
use Rattle.rules.specs.declared.variable.Early.{Early}
use Rattle.rules.specs.Fault.{fault_if, fault_of, is_fault, or_else}
use Rattle.rules.specs.State.{State, state_of, stopped, unless_broken, with_variables}
use Rattle.rules.specs.Variable.{triggers, head_words, with_variable, bad_behaviours, lowest, read_of, name_fault, list_of, early_fault, EarlyOf, late_number, added_variable, judge_variable}
use Rattle.rules.proofs.JudgingLaws.{with_fault}
use Rattle.rules.proofs.FrameLaws.{written_below}
use Rattle.tables.proofs.SameLaws.{Alike}
use Rattle.tables.proofs.Growth.{mapped-same}
use Rattle.tables.proofs.SoundLaws.{mapped-more, own-none}

-- the words before the new entry are as they were, the count aside
pub before-entry : (vs : List ℕ) (d : Variable) (first second : List ℕ) (read write : ℕ)
    → Alike (variable_at (count_of vs)) vs (with_variable vs d first second read write)
unfolding with_variable
before-entry vs d first second read write i a z =
    let v = count_of vs in
    let b = d.rest.behaviours in
    let headed = written vs (variable_at v) (head_words d) in
    let reads = part_words d first second (triggers b b.read) read in
    let half = written headed (variable_part v 0) reads in
    let writes = part_words d first second (triggers b b.write) write in
    sym
    (get_or-set_other (written half (variable_part v 1) writes) 0 i (word_of (v + 1)) 0 (λ e. omega arith)
    ∙ written_below half (variable_part v 1) writes i (omega arith)
    ∙ written_below headed (variable_part v 0) reads i (omega arith)
    ∙ written_below vs (variable_at v) (head_words d) i z)

-- the maps of the variables before it
pub mapped-entry : (vs : List ℕ) (d : Variable) (first second : List ℕ) (read write : ℕ) {v : ℕ} {t reads writes : List ℕ}
    → every (count_of vs) (variable_shape vs) ≡ true → Mapped vs (count_of vs) reads writes
    → t ≡ with_variable vs d first second read write → v ≡ count_of vs → Mapped t v reads writes
mapped-entry vs d first second read write shapes m e f =
    rw (e, f) (mapped-same vs (with_variable vs d first second read write) (count_of vs) shapes (before-entry vs d first second read write) m)

-- the answer, where the count was read from the table
pub judged-at : (rs t : List ℕ) (other : ℕ) {number v n : ℕ} → number ≡ lowest (variable_fault rs t v) other → v ≡ n
    → number ≡ lowest (variable_fault rs t n) other
judged-at rs t other h e = rw (← e) h

-- the lower of two numbers of rules is none: so is the first
pub lowest-none : (a b : ℕ) → lowest a b ≡ 0 → a ≡ 0
unfolding lowest
lowest-none a b h = go (eqb a 0) refl (eqb b 0) refl (leb a b) refl
  where
    go : (x : Bool) → eqb a 0 ≡ x → (y : Bool) → eqb b 0 ≡ y → (z : Bool) → leb a b ≡ z → a ≡ 0
    go true e y f z g = eqb-true a 0 e
    go false e true f z g = sym (rw (e, f)) ∙ h
    go false e false f true g = sym (min-eq_left (leb-true a b g)) ∙ sym (rw (e, f)) ∙ h
    go false e false f false g =
        let m : min a b ≡ b = min-eq_right (let l = leb-false a b g in omega arith) in
        let z : b ≡ 0 = sym m ∙ sym (rw (e, f)) ∙ h in
        absurd (eqb-false b 0 f z)

-- where the entry breaks no rule, the maps take it in
pub mapped_at : (rs t : List ℕ) (other : ℕ) {number v n : ℕ} {reads writes reads' writes' : List ℕ} → count_of rs ≤ 64
    → number ≡ lowest (variable_fault rs t v) other → number ≡ 0 → v ≡ n → Mapped t v reads writes
    → reads' ≡ marks reads (enters_of t 0 v) → writes' ≡ marks writes (enters_of t 1 v) → Mapped t (n + 1) reads' writes'
mapped_at rs t other {v = v} few is none e m r w =
    rw (← e) (mapped-more rs t v few (own-none rs t v (lowest-none (variable_fault rs t v) other (sym is ∙ none))) m r w)

-- ---- the judging, call by call
-- no list has number 0
pub none-is : (given : Option Given) → is_none given ≡ eqb (list_no given) 0
none-is None = refl
none-is (Some First) = refl
none-is (Some Second) = refl

module _ (text : List ℕ) (j : Judging) (ps rs vs : List ℕ) (d : Variable) (first second : List ℕ) where
  abbrev before : State
  before = state_of j ps rs vs

  abbrev it : VariableRead
  it = read_of d first second

  -- what breaks before there is an entry
  pub early-is : {names unpaired fault : Option Fault} {read write : ℕ} → names ≡ name_fault text before it
      → read ≡ list_of text before it 0 → write ≡ list_of text before it 1
      → unpaired ≡ fault_if (eqb read 0 && eqb write 0) 11 d.place → fault ≡ or_else names unpaired → fault ≡ early_fault text before it
  unfolding early_fault state_of read_of
  early-is n r w u e = rw (e, u, r, w, n)

  module _ {early : Early} (e : EarlyOf text before it early) where
    pub judged-early : is_fault early.fault ≡ true → state_of (with_fault j ps rs vs early.fault) ps rs vs ≡ judge_variable text before it
    unfolding judge_variable unless_broken stopped state_of
    judged-early z = rw (← e.fault, z)

    pub judged-late : {t : List ℕ} {late : Option Fault} → is_fault early.fault ≡ false
        → t ≡ with_variable vs d early.firsts early.seconds early.read early.write
        → late ≡ fault_of (lowest (variable_fault rs t (count_of vs)) (cond (bad_behaviours d.rest.behaviours early.read early.write) 13 0)) d.place
        → state_of (with_fault j ps rs vs late) ps rs t ≡ judge_variable text before it
    unfolding judge_variable unless_broken added_variable with_variables state_of read_of late_number
    judged-late z t l = rw (← e.fault, z, l, t, e.read, e.write, e.firsts, e.seconds)
