-- What the code keeps beside the tables is kept by a variable.
-- Assumes nothing.
use Prim.Native.Nat.{ℕ, ◌+◌, ◌*◌, ◌≤◌, ◌<◌}
use native.Mathlib.Omega.{arith}
use mathlib.Core.Path.{◌≡◌, refl, sym, ap, ◌∙◌, subst}
use mathlib.Core.Bool.{Bool, true, false, ◌&&◌, ◌||◌, cond, false≢true}
use mathlib.Core.Logic.{◌⊎◌, ⊎_elim, inl, inr}
use mathlib.Core.List.{List}
use lib.Dec.{eqb, leb}
use lib.ListN.{length, replicate}
use borrow.Author.Tests.{eqb-true, leb-false}
use Rattle.std.specs.Prelude.{None}
use Rattle.syntax.specs.declared.variable.Variable.{Variable}
use Rattle.syntax.specs.Variable.{VariableRead}
use Rattle.syntax.specs.Text.{Progress, a_variable, counted}
use Rattle.tables.specs.Every.{every}
use Rattle.tables.specs.Words.{count_of, variable_at}
use Rattle.tables.specs.Rules.{variable_part_shape, variable_shape}
use Rattle.tables.proofs.Laws.{every_more, every-same}
use Rattle.tables.proofs.SameLaws.{variable_shape-same}
use Rattle.rules.specs.Fault.{is_fault}
use Rattle.rules.proofs.FaultLaws.{if_none, or-none}
use Rattle.rules.specs.declared.declared.Judging.{Judging}
use Rattle.rules.specs.State.{State, state_of, unless_stopped, unless_broken, stopped, with_variables}
use Rattle.rules.specs.Lists.{paired, all_have, list_for, part_words}
use Rattle.rules.specs.Variable.{triggers, first_pieces, second_pieces, list_of, early_fault, variables_with, added_variable, judge_variable, MappedUnless}
use Rattle.loader.specs.Judge.{judge}
use Rattle.loader.specs.Ready.{Ready, Judgeable}
use Rattle.loader.proofs.PieceCounts.{WellRead}
use Rattle.loader.proofs.ShapeLaws.{Listed, pieces-length, pieces-blank, part-shape, entry_length, entry-added, entry-shape, flag_small}
use Rattle.tables.proofs.Growth.{Added}
use Rattle.rules.proofs.JudgingLaws.{unstopped, judged-kept}

-- the list that gives a part is one of the two, or none
cond-one : (a b c d : Bool) → eqb (cond a (cond b 1 (cond c 2 (cond d 1 0))) 0) 0 ≡ false
    → (eqb (cond a (cond b 1 (cond c 2 (cond d 1 0))) 0) 1 || eqb (cond a (cond b 1 (cond c 2 (cond d 1 0))) 0) 2) ≡ true
cond-one false b c d h = absurd (false≢true (sym h))
cond-one true true c d h = refl
cond-one true false true d h = refl
cond-one true false false true h = refl
cond-one true false false false h = absurd (false≢true (sym h))

cond-two : (a b c d : Bool) → eqb (cond a (cond b 1 (cond c 2 (cond d 1 0))) 0) 2 ≡ true → c ≡ true
cond-two false b c d h = absurd (false≢true h)
cond-two true true c d h = absurd (false≢true h)
cond-two true false true d h = refl
cond-two true false false true h = absurd (false≢true h)
cond-two true false false false h = absurd (false≢true h)

list-some : (rs : List ℕ) (d : Variable) (first : List ℕ) (p : ℕ) → eqb (list_for rs d first p) 0 ≡ false → (eqb (list_for rs d first p) 1 || eqb (list_for rs d first p) 2) ≡ true
unfolding list_for
list-some rs d first p = cond-one (paired d) (eqb d.mark (p + 1)) (eqb d.rest.mark (p + 1)) (eqb d.mark 0 && all_have rs p first d.count)

list-second : (rs : List ℕ) (d : Variable) (first : List ℕ) (p : ℕ) → eqb (list_for rs d first p) 2 ≡ true → d.rest.mark ≡ p + 1
unfolding list_for
list-second rs d first p h =
    eqb-true d.rest.mark (p + 1) (cond-two (paired d) (eqb d.mark (p + 1)) (eqb d.rest.mark (p + 1)) (eqb d.mark 0 && all_have rs p first d.count) h)

either-some : (a b : Bool) (x y : Bool) → (a && b) ≡ false → (a ≡ false → x ≡ true) → (b ≡ false → y ≡ true) → (x || y) ≡ true
either-some false b true y h f g = refl
either-some false b false y h f g = absurd (false≢true (f refl))
either-some true false true y h f g = refl
either-some true false false y h f g = g refl
either-some true true x y h f g = absurd (false≢true (sym h))

module _ (text : List ℕ) (s : State) (it : VariableRead) where
  abbrev after : State
  after = unless_stopped s (judge_variable text s it)

  -- 11 by the pairing, where it is not broken
  pub early-eleven : early_fault text s it ≡ None → (eqb (list_of text s it 0) 0 && eqb (list_of text s it 1) 0) ≡ false
  unfolding early_fault
  early-eleven h = if_none _ 11 _ (or-none _ _ h).1

  -- a variable that breaks no rule was judged, and entered
  pub record Entered : Type 0 where
    pub before : s.fault ≡ None
    pub table : after.variables ≡ variables_with text s it
    pub given : (eqb (list_of text s it 0) 0 && eqb (list_of text s it 1) 0) ≡ false

  pub entered-is : after.fault ≡ None → Entered
  unfolding judge_variable added_variable with_variables
  entered-is h =
      let kept = judged-kept s (early_fault text s it) (added_variable text s it) h in
      record { before = (unstopped s (judge_variable text s it) h).0; table = ap (λ (t : State). t.variables) kept.1; given = early-eleven kept.0 }

  -- the list of a part, as its entry wants it
  module _ (w : WellRead it.variable) where
    first-listed : Listed it.variable.count (first_pieces text s it)
    first-listed =
        record {
          some = w.some;
          few = w.few;
          long = pieces-length text s.registers it.first (replicate 24 0) it.variable.count;
          blank = pieces-blank text s.registers it.first it.variable.count;
        }

    second-listed : (p : ℕ) → eqb (list_of text s it p) 2 ≡ true → Listed it.variable.rest.count (second_pieces text s it)
    second-listed p h =
        record {
          some = ⊎_elim (λ e. absurd (marked p (sym (list-second s.registers it.variable (first_pieces text s it) p h) ∙ e))) (λ l. l) w.second;
          few = w.second-few;
          long = pieces-length text s.registers it.second (replicate 24 0) it.variable.rest.count;
          blank = pieces-blank text s.registers it.second it.variable.rest.count;
        }
      where
        marked : (p : ℕ) → p + 1 ≡ 0 → ⊥
        marked p e = omega arith

    -- each of its parts has its shape, in 27 words
    abbrev part : (own p : ℕ) → List ℕ
    part own p = part_words it.variable (first_pieces text s it) (second_pieces text s it) (triggers it.variable.rest.behaviours own) (list_of text s it p)

    pub part-shaped : (own p : ℕ) → (variable_part_shape (part own p) 0 ≡ true) × (length (part own p) ≡ 27)
    unfolding triggers
    part-shaped own p =
        part-shape it.variable (first_pieces text s it) (second_pieces text s it) _ (list_of text s it p)
        (flag_small (leb 1 (it.variable.rest.behaviours.bare + own))) first-listed (second-listed p)

    abbrev own-reads : ℕ
    own-reads = it.variable.rest.behaviours.read

    abbrev own-writes : ℕ
    own-writes = it.variable.rest.behaviours.write

    -- the entry is written behind those that are there
    pub variable-length : length (variables_with text s it) ≡ length s.variables
    variable-length = entry_length s.variables it.variable (first_pieces text s it) (second_pieces text s it) (list_of text s it 0) (list_of text s it 1) (part-shaped own-reads 0).1 (part-shaped own-writes 1).1

    pub variable-adds : 0 < length s.variables → count_of s.variables < 4294967295 → Added 59 s.variables (variables_with text s it)
    variable-adds = entry-added s.variables it.variable (first_pieces text s it) (second_pieces text s it) (list_of text s it 0) (list_of text s it 1) (part-shaped own-reads 0).1 (part-shaped own-writes 1).1

    -- the entry has its shape, and those before it keep theirs
    pub entry-shaped : variable_at (count_of s.variables) + 59 ≤ length s.variables → (eqb (list_of text s it 0) 0 && eqb (list_of text s it 1) 0) ≡ false
        → variable_shape (variables_with text s it) (count_of s.variables) ≡ true
    entry-shaped fits given =
        let d = it.variable in
        let f = first_pieces text s it in
        entry-shape s.variables d f (second_pieces text s it) (list_of text s it 0) (list_of text s it 1) (part-shaped own-reads 0).1 (part-shaped own-writes 1).1 fits w.kind
        (part-shaped own-reads 0).0 (part-shaped own-writes 1).0
        (either-some _ _ (eqb (list_of text s it 0) 1 || eqb (list_of text s it 0) 2) (eqb (list_of text s it 1) 1 || eqb (list_of text s it 1) 2) given
        (list-some s.registers d f 0) (list-some s.registers d f 1))

    shapes-more : 59 * count_of s.variables + 60 ≤ length s.variables → count_of s.variables ≤ 127
        → every (count_of s.variables) (variable_shape s.variables) ≡ true → (eqb (list_of text s it 0) 0 && eqb (list_of text s it 1) 0) ≡ false
        → every (count_of (variables_with text s it)) (variable_shape (variables_with text s it)) ≡ true
    shapes-more fits few shapes given =
        let vs = s.variables in
        let n = count_of vs in
        let vs' = variables_with text s it in
        let added = variable-adds (omega arith) (omega arith) in
        let kept : every n (variable_shape vs') ≡ true =
        sym (every-same n (variable_shape vs) (variable_shape vs') (λ v l. variable_shape-same vs vs' v (λ i a z. added.before i a (omega arith)))) ∙ shapes in
        rw (added.count, every_more, kept) (entry-shaped (omega arith) given)

  -- only the variables change, and if they do, by the entry
  pub only-variables : (after.registers ≡ s.registers) × ((after.variables ≡ s.variables) ⊎ (after.variables ≡ variables_with text s it))
  unfolding unless_stopped judge_variable unless_broken stopped added_variable with_variables
  only-variables = go (is_fault s.fault) refl (is_fault (early_fault text s it)) refl
    where
      go : (a : Bool) → is_fault s.fault ≡ a → (b : Bool) → is_fault (early_fault text s it) ≡ b
          → (after.registers ≡ s.registers) × ((after.variables ≡ s.variables) ⊎ (after.variables ≡ variables_with text s it))
      go true e b g = (rw e, inl (rw e))
      go false e true g = (rw (e, g), inl (rw (e, g)))
      go false e false g = (rw (e, g), inr (rw (e, g)))

pub ready-variable : (text : List ℕ) (p : Progress State) (it : VariableRead) (next : ℕ)
    {reads writes reads' writes' : List ℕ} → Ready p reads writes
    → leb 128 p.variables ≡ false → WellRead it.variable
    → MappedUnless (after text p.made it).fault (after text p.made it).variables (count_of p.made.variables + 1) reads' writes'
    → Ready (counted (judge text) p (a_variable it) next) reads' writes'
unfolding counted judge
ready-variable text p it next {reads' = reads'} {writes' = writes'} ready room w mapped =
    let s = p.made in
    let vs = s.variables in
    let only = only-variables text s it in
    let few : count_of vs ≤ 127 = omega (arith, ready.variables-counted, leb-false 128 p.variables room) in
    let added = variable-adds text s it w (omega (arith, ready.long)) (omega arith) in
    let long = variable-length text s it w in
    let most : count_of (after text s it).variables ≤ p.variables + 1 =
    ⊎_elim (λ e. let q : count_of (after text s it).variables ≡ count_of vs = ap count_of e in omega (arith, ready.variables-counted))
    (λ e. let q : count_of (after text s it).variables ≡ count_of vs + 1 = ap count_of e ∙ added.count in omega (arith, ready.variables-counted)) only.1 in
    record {
      registers-counted = rw only.0 ready.registers-counted;
      registers-few = ready.registers-few;
      variables-counted = most;
      variables-few = omega (arith, leb-false 128 p.variables room);
      long = ⊎_elim (λ e. rw e ready.long) (λ e. rw e (long ∙ ready.long)) only.1;
      shaped =
          λ z. let e = entered-is text s it z in
          rw e.table (shapes-more text s it w (omega (arith, ready.long)) few (ready.shaped e.before) e.given);
      mapped =
          λ z. let e = entered-is text s it z in
          let c : count_of (after text s it).variables ≡ count_of vs + 1 = ap count_of e.table ∙ added.count in
          rw c (mapped z);
    }

-- what judging the variable asks for, and what its answer says of the maps
module _ (p : Progress State) {reads writes : List ℕ} (ready : Ready p reads writes) where
  pub judged-asks : (d : Variable) → leb 128 p.variables ≡ false → WellRead d → Judgeable p.made.fault p.made.registers p.made.variables d reads writes
  judged-asks d room w =
      record {
        registers-few = omega (arith, ready.registers-counted, ready.registers-few);
        variables-few = omega (arith, ready.variables-counted, leb-false 128 p.variables room);
        few = w.few;
        second-few = w.second-few;
        shaped = ready.shaped;
        mapped = ready.mapped;
      }

pub mapped-judged : (j : Judging) (ps rs vs : List ℕ) {s : State} (n : ℕ) {reads writes : List ℕ} → state_of j ps rs vs ≡ s
    → MappedUnless j.fault vs n reads writes → MappedUnless s.fault s.variables n reads writes
unfolding state_of
mapped-judged j ps rs vs n {reads} {writes} e m =
    subst (λ (t : State). MappedUnless t.fault t.variables n reads writes) e m
