-- A whole text, judged as it is read, and what is left in the tables.
-- Assumes nothing.
use Prim.Native.Nat.{ℕ, ◌≤◌}
use native.Mathlib.Omega.{arith}
use mathlib.Core.Path.{◌≡◌, refl, sym, ap, ◌∙◌, subst}
use mathlib.Core.Bool.{Bool, true, false, ◌&&◌, ◌||◌, not, false≢true}
use mathlib.Core.List.{List, ◌++◌}
use lib.Dec.{ltb}
use lib.Seq.{length-take-le}
use borrow.Author.Tests.{ltb-false, le-ltb}
use lib.ListN.{length, take, drop, replicate, length-replicate}
use Rattle.syntax.specs.Step.{Step}
use Rattle.syntax.specs.Reader.{fixed_after}
use Rattle.syntax.specs.Text.{Progress, moved_to, parameters_with, declarations_with, reading_with}
use Rattle.syntax.proofs.Folded.{reading-folds}
use Rattle.tables.specs.Every.{every, first_of}
use Rattle.tables.specs.Words.{count_of}
use Rattle.tables.specs.Scan.{covered_by}
use Rattle.tables.proofs.SoundLaws.{mapped-none}
use Rattle.tables.proofs.ScanLaws.{uncovered-says}
use Rattle.tables.specs.View.{Tables}
use Rattle.rules.specs.declared.fault.Fault.{Fault}
use Rattle.rules.specs.State.{State, state_of}
use Rattle.loader.specs.declared.heading.Loading.{Loading}
use Rattle.std.specs.Prelude.{Option, Some, None, Ok, Err}
use Rattle.std.specs.Result.{is_err}
use Rattle.token.specs.declared.Refusal.{Refusal}
use Rattle.loader.specs.Verdict.{Verdict, refused}
use Rattle.loader.specs.Judge.{judge, progress_of, at_start, moved_by}
use Rattle.loader.specs.Ready.{Ready}
use Rattle.loader.specs.Load.{lent_as, tables_of, Sized, beginning, judged, judged_as, first_uncovered, once_read, verdict_of, is_accepted, left_by, is_short, is_long, loaded, laid_over, load_of}
use Rattle.loader.proofs.LoadSteps.{moved_to_lem}
use Rattle.loader.proofs.CountLaws.{NoneRead, none-parameters}

-- at the start, tables of zeros
pub record Blank (ps rs vs : List ℕ) : Type 0 where
  pub parameters : ps ≡ replicate 577 0
  pub registers : rs ≡ replicate 961 0
  pub variables : vs ≡ replicate 7553 0

pub blank-is : (ps rs vs : List ℕ) → lent_as ps rs vs ≡ tables_of beginning → Blank ps rs vs
unfolding lent_as tables_of beginning
blank-is ps rs vs e =
    record { parameters = ap (λ (t : Tables). t.parameters) e; registers = ap (λ (t : Tables). t.registers) e; variables = ap (λ (t : Tables). t.variables) e }

abbrev first : Progress State
first = record { parameters = 0; registers = 0; variables = 0; made = beginning; step = Ok 0 }

starts : (ps rs vs : List ℕ) → Blank ps rs vs → progress_of at_start ps rs vs ≡ first
unfolding progress_of state_of beginning at_start
starts ps rs vs b = rw (b.parameters, b.registers, b.variables)

-- nothing is counted or marked yet
ready_at : (p : Progress State) → NoneRead p → p.made.registers ≡ replicate 961 0 → p.made.variables ≡ replicate 7553 0
    → Ready p (replicate 4096 0) (replicate 4096 0)
unfolding every
ready_at p none r v =
    let zero-registers : count_of p.made.registers ≡ 0 = ap count_of r in
    let zero-variables : count_of p.made.variables ≡ 0 = ap count_of v in
    record {
      registers-counted = omega arith;
      registers-few = omega (arith, none.0);
      variables-counted = omega arith;
      variables-few = omega (arith, none.1);
      long = ap length v ∙ length-replicate {A = ℕ} 7553 0;
      shaped = λ z. rw zero-variables;
      mapped = λ z. rw zero-variables (mapped-none p.made.variables);
    }

-- to judge the declarations as they are read is to judge the list of them
reading-is : (text : List ℕ)
    → moved_to (declarations_with (judge text) text (parameters_with (judge text) text first)) (fixed_after text 255 (declarations_with (judge text) text (parameters_with (judge text) text first)).step)
    ≡ judged text
unfolding judged reading_with
reading-is text = reading-folds (judge text) text beginning

module _ (text : List ℕ) (ps rs vs : List ℕ) (blank : Blank ps rs vs) where
  module _ (headed : Loading) (qs : List ℕ) {start : Loading} (s : start ≡ at_start) (p : progress_of headed qs rs vs ≡ parameters_with (judge text) text (progress_of start ps rs vs)) where
    from_start : progress_of headed qs rs vs ≡ parameters_with (judge text) text first
    from_start = p ∙ ap (λ (l : Loading). parameters_with (judge text) text (progress_of l ps rs vs)) s ∙ ap (parameters_with (judge text) text) (starts ps rs vs blank)

    counted_none : NoneRead (progress_of headed qs rs vs)
    counted_none = subst NoneRead (sym from_start) (none-parameters text first (refl, refl))

    pub ready-start : {reads writes : List ℕ} → reads ≡ replicate 4096 0 → writes ≡ replicate 4096 0 → Ready (progress_of headed qs rs vs) reads writes
    unfolding progress_of state_of
    ready-start r w = rw (r, w) (ready_at (progress_of headed qs rs vs) counted_none blank.registers blank.variables)

    -- the whole text
    pub text-judged : (all : Loading) (rs₂ vs₂ : List ℕ) {end : Step} {r : Loading} → progress_of all qs rs₂ vs₂ ≡ declarations_with (judge text) text (progress_of headed qs rs vs)
        → end ≡ fixed_after text 255 all.step → r ≡ moved_by all end → progress_of r qs rs₂ vs₂ ≡ judged text
    unfolding judged progress_of
    text-judged all rs₂ vs₂ d e m =
        moved_to_lem all _ qs rs₂ vs₂ m ∙ ap (moved_to (progress_of all qs rs₂ vs₂)) e
        ∙ ap (λ (q : Progress State). moved_to q (fixed_after text 255 q.step)) (d ∙ ap (declarations_with (judge text) text) from_start)
        ∙ reading-is text

-- rule 16 is asked for only where no rule is broken before
judged-same : (fault : Option Fault) (a b : ℕ) (ps rs vs : List ℕ) → (fault ≡ None → a ≡ b) → judged_as fault a ps rs vs ≡ judged_as fault b ps rs vs
unfolding judged_as
judged-same (Some x) a b ps rs vs h = refl
judged-same None a b ps rs vs h = ap (λ (n : ℕ). judged_as None n ps rs vs) (h refl)

uncovered-is : (p : Progress State) {first : ℕ} {reads writes : List ℕ} → Ready p reads writes
    → first ≡ first_of (count_of p.made.registers) (λ i. not (covered_by p.made.registers reads 0 i && covered_by p.made.registers writes 1 i))
    → p.made.fault ≡ None → first ≡ first_uncovered p.made.registers p.made.variables
unfolding first_uncovered
uncovered-is p ready e z =
    let m = ready.mapped z in
    e ∙ rw (m.read.is, m.write.is) (uncovered-says p.made.registers p.made.variables (count_of p.made.variables) (omega (arith, ready.registers-counted, ready.registers-few)))

-- the verdict, over what the calls answered
module _ (text : List ℕ) (all : Loading) (ps rs vs : List ℕ) (read : progress_of all ps rs vs ≡ judged text) where
  pub verdict-unread : {refusal : Refusal} → all.step ≡ Err refusal → refused refusal.number refusal.place ≡ verdict_of (judged text)
  unfolding verdict_of progress_of once_read
  verdict-unread e = rw (← read, e)

  pub verdict-is : {first next : ℕ} {answer : Verdict} {reads writes : List ℕ} → all.step ≡ Ok next → Ready (progress_of all ps rs vs) reads writes
      → first ≡ first_of (count_of rs) (λ i. not (covered_by rs reads 0 i && covered_by rs writes 1 i))
      → answer ≡ judged_as all.judging.fault first ps rs vs → answer ≡ verdict_of (judged text)
  unfolding verdict_of progress_of state_of once_read
  verdict-is goes ready u j =
      j ∙ judged-same all.judging.fault _ _ ps rs vs (uncovered-is (progress_of all ps rs vs) ready u) ∙ rw (← read, goes)

  pub tables-left : lent_as ps rs vs ≡ tables_of (judged text).made
  unfolding progress_of state_of tables_of
  tables-left = ap (λ (p : Progress State). tables_of p.made) read

-- tables of their stated sizes, cleared
pub cleared-blank : (ps rs vs : List ℕ) {p r v : List ℕ} → Sized ps rs vs → p ≡ replicate (length ps) 0 → r ≡ replicate (length rs) 0 → v ≡ replicate (length vs) 0
    → lent_as p r v ≡ tables_of beginning
unfolding lent_as tables_of beginning
cleared-blank ps rs vs sized a b c = rw (a, b, c, sized.parameters, sized.registers, sized.variables)

-- what the answer leaves
module _ (text : List ℕ) {answer : Verdict} {t : Tables} (v : answer ≡ verdict_of (judged text)) where
  pub left-accepted : is_err answer ≡ false → t ≡ tables_of (judged text).made → t ≡ tables_of (left_by (judged text))
  unfolding left_by is_accepted
  left-accepted h e = e ∙ rw (← v, go answer h)
    where
      go : (a : Verdict) → is_err a ≡ false → is_accepted a ≡ true
      go (Ok counts) h = refl
      go (Err r) h = absurd (false≢true (sym h))

  pub left-refused : is_err answer ≡ true → t ≡ tables_of beginning → t ≡ tables_of (left_by (judged text))
  unfolding left_by is_accepted
  left-refused h e = e ∙ rw (← v, go answer h)
    where
      go : (a : Verdict) → is_err a ≡ true → is_accepted a ≡ false
      go (Err r) h = refl
      go (Ok counts) h = absurd (false≢true h)

-- tables that are not short
pub record Long (p r v : ℕ) : Type 0 where
  pub parameters : 577 ≤ p
  pub registers : 961 ≤ r
  pub variables : 7553 ≤ v

between : (p r v : ℕ) → (ltb p 577 || ltb r 961 || ltb v 7553) ≡ false → Long p r v
between p r v h = go (ltb p 577) (ltb r 961) (ltb v 7553) refl refl refl h
  where
    go : (a b c : Bool) → ltb p 577 ≡ a → ltb r 961 ≡ b → ltb v 7553 ≡ c → (a || b || c) ≡ false → Long p r v
    go false false false e f g h = record { parameters = ltb-false p 577 e; registers = ltb-false r 961 f; variables = ltb-false v 7553 g }
    go true b c e f g h = absurd (false≢true (sym h))
    go false true c e f g h = absurd (false≢true (sym h))
    go false false true e f g h = absurd (false≢true (sym h))

pub long-enough : (ps rs vs : List ℕ) {short : Bool} → short ≡ is_short (lent_as ps rs vs) → short ≡ false → Long (length ps) (length rs) (length vs)
unfolding is_short lent_as
long-enough ps rs vs is none = between (length ps) (length rs) (length vs) (sym is ∙ none)

pub sized-parts : (ps rs vs : List ℕ) → Long (length ps) (length rs) (length vs) → Sized (take 577 ps) (take 961 rs) (take 7553 vs)
sized-parts ps rs vs l =
    record {
      parameters = length-take-le 577 ps l.parameters;
      registers = length-take-le 961 rs l.registers;
      variables = length-take-le 7553 vs l.variables;
    }

-- loading, where neither 1 nor 2 is given
pub loaded-is : (text ps rs vs p r v : List ℕ) {answer : Verdict} {short : Bool} → short ≡ is_short (lent_as ps rs vs) → short ≡ false → length text ≤ 8192
    → answer ≡ verdict_of (judged text) → lent_as p r v ≡ tables_of (left_by (judged text))
    → loaded answer (p ++ drop 577 ps) (r ++ drop 961 rs) (v ++ drop 7553 vs) ≡ load_of text (lent_as ps rs vs)
unfolding load_of is_long loaded lent_as tables_of laid_over
loaded-is text ps rs vs p r v {answer} is none long a e =
    rw (sym is ∙ none, le-ltb 8192 (length text) long)
    (ap (λ (x : Verdict). loaded x (p ++ drop 577 ps) (r ++ drop 961 rs) (v ++ drop 7553 vs)) a
    ∙ ap (λ (t : Tables). loaded (verdict_of (judged text)) (t.parameters ++ drop 577 ps) (t.registers ++ drop 961 rs) (t.variables ++ drop 7553 vs)) e)
