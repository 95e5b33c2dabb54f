-- A variable that breaks no rule makes the tables grow as `Growth` wants it.
-- Assumes nothing.
use Prim.Native.Nat.{ℕ, ◌+◌, ◌≤◌, ◌<◌}
use native.Mathlib.Omega.{arith}
use mathlib.Core.Path.{◌≡◌, ap, ◌∙◌}
use mathlib.Core.Bool.{true, cond}
use mathlib.Core.List.{List}
use lib.ListN.{length}
use Rattle.std.specs.Prelude.{None}
use Rattle.syntax.specs.Variable.{VariableRead}
use Rattle.tables.specs.Tables.{count_of, variable_at}
use Rattle.tables.specs.Rules.{variable_fault, variable_shape}
use Rattle.tables.specs.Sound.{variable_good}
use Rattle.tables.proofs.Growth.{Added, variable-added}
use Rattle.rules.specs.State.{State, with_variables}
use Rattle.rules.specs.Variable.{bad_behaviours, list_of, early_fault, variables_with, late_number, added_variable, judge_variable}
use Rattle.rules.proofs.FaultLaws.{of-none}
use Rattle.rules.proofs.JudgingLaws.{unbroken}
use Rattle.rules.proofs.VariableLaws.{lowest-none}
use Rattle.loader.proofs.PieceCounts.{WellRead}
use Rattle.loader.proofs.VariableReady.{early-eleven, variable-length, variable-adds, entry-shaped}
use Rattle.rules.proofs.Growing.{Growing}

variable_good_lem : (rs vs : List ℕ) (i : ℕ) → variable_shape vs i ≡ true → variable_fault rs vs i ≡ 0 → variable_good rs vs i ≡ true
unfolding variable_good
variable_good_lem rs vs i s f = rw (s, f)

module _ (text : List ℕ) {p r v : ℕ} (s : State) (d : VariableRead) (g : Growing p r v s) (w : WellRead d.variable) (few : v < 128) where
  abbrev vs : List ℕ
  vs = s.variables

  abbrev more : List ℕ
  more = variables_with text s d

  fits : variable_at (count_of vs) + 59 ≤ length vs
  fits = omega (arith, g.variables-long, g.variables-counted)

  kept : late_number text s d ≡ 0 → variable_fault s.registers more (count_of vs) ≡ 0
  unfolding late_number
  kept h = lowest-none _ (cond (bad_behaviours d.variable.rest.behaviours (list_of text s d 0) (list_of text s d 1)) 13 0) h

  added : Added 59 vs more
  added = variable-adds text s d w (omega (arith, g.variables-long)) (omega (arith, g.variables-counted))

  pub grow-variable : (judge_variable text s d).fault ≡ None → Growing p r (v + 1) (judge_variable text s d)
  unfolding judge_variable added_variable with_variables
  grow-variable none =
      let whole = unbroken s (early_fault text s d) (added_variable text s d) none in
      let late : late_number text s d ≡ 0 = of-none _ _ whole.1.1 in
      let shape = entry-shaped text s d w fits (early-eleven text s d whole.0) in
      rw whole.1.0
      (record {
        so_far = variable-added s.parameters s.registers g.so_far added (variable_good_lem s.registers more (count_of vs) shape (kept late));
        parameters-long = g.parameters-long;
        registers-long = g.registers-long;
        variables-long = omega (arith, g.variables-long, variable-length text s d w);
        parameters-counted = g.parameters-counted;
        registers-counted = g.registers-counted;
        variables-counted = added.count ∙ ap (λ (n : ℕ). n + 1) g.variables-counted;
      })
