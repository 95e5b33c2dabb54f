-- One declaration more, over what the calls of the code answered: it is one too many, or it stops the reading, or it is
-- judged. Assumes nothing.
use Prim.Native.Nat.{ℕ, ◌+◌}
use mathlib.Core.Path.{◌≡◌, sym, ap, ◌∙◌, subst, refl}
use mathlib.Core.Bool.{false, true, false≢true}
use mathlib.Core.List.{List, []}
use lib.Dec.{leb}
use lib.ListN.{replicate}
use Rattle.std.specs.Result.{is_err}
use Rattle.std.specs.Prelude.{Ok, Err}
use Rattle.token.specs.declared.Refusal.{Refusal}
use Rattle.syntax.specs.Step.{Step}
use Rattle.syntax.specs.declared.parameter.Parameter.{Parameter}
use Rattle.syntax.specs.declared.register.Register.{Register}
use Rattle.syntax.specs.declared.variable.Variable.{Variable}
use Rattle.syntax.specs.Reader.{fixed_after}
use Rattle.syntax.specs.Parameter.{ParameterRead, parameter_after}
use Rattle.syntax.specs.Register.{register_after}
use Rattle.syntax.specs.Variable.{VariableRead, variable_after}
use Rattle.syntax.specs.Text.{Declaration, Progress, a_variable, taken, counted, parameter_with, register_with, variable_with}
use Rattle.tables.specs.Words.{count_of}
use Rattle.rules.specs.declared.declared.Judging.{Judging}
use Rattle.rules.specs.State.{State, state_of, unless_stopped}
use Rattle.rules.specs.Parameter.{judge_parameter}
use Rattle.rules.specs.Register.{judge_register}
use Rattle.rules.specs.Variable.{read_of, judge_variable, MappedUnless}
use Rattle.loader.specs.declared.heading.Loading.{Loading}
use Rattle.loader.specs.Judge.{judge, progress_of, moved_by, variable_more}
use Rattle.loader.specs.Ready.{Ready}
use Rattle.loader.proofs.LoadSteps.{moved_to_lem}
use Rattle.loader.proofs.PieceCounts.{WellRead, well-read}
use Rattle.loader.proofs.ReadyLaws.{ready_moved}
use Rattle.loader.proofs.VariableReady.{ready-variable, mapped-judged}

-- a reading that stopped, and one that goes on
pub stopped_at : (s : Step) → is_err s ≡ true → (stop : Refusal) × (s ≡ Err stop)
stopped_at (Err stop) e = (stop, refl)
stopped_at (Ok next) e = absurd (false≢true e)

pub going_to : (s : Step) → is_err s ≡ false → (next : ℕ) × (s ≡ Ok next)
going_to (Ok next) e = (next, refl)
going_to (Err stop) e = absurd (false≢true (sym e))

-- what was read, from its parts
parameter-read : {w : ParameterRead} {r : Parameter} {t : List ℕ} → r ≡ w.parameter → t ≡ w.table → w ≡ record { parameter = r; table = t }
parameter-read e f = rw (e, f)

variable-read : {w : VariableRead} {r : Variable} {a b : List ℕ} → r ≡ w.variable → a ≡ w.first → b ≡ w.second → w ≡ read_of r a b
unfolding read_of
variable-read e f g = rw (e, f, g)

-- a declaration that is whole counts
taken-goes : (text : List ℕ) (p : Progress State) (d : Declaration) {s : Step} {next : ℕ} → s ≡ Ok next → taken (judge text) p d s ≡ counted (judge text) p d next
unfolding taken
taken-goes text p d e = rw e

module _ (text : List ℕ) (l : Loading) (ps rs vs : List ℕ) where
  abbrev here : Progress State
  here = progress_of l ps rs vs

  abbrev state : State
  state = state_of l.judging ps rs vs

  -- ---- a parameter
  abbrev next-parameter : State → Step → Progress State
  next-parameter x s = record { parameters = l.parameters + 1; registers = l.registers; variables = l.variables; made = x; step = s }

  module _ {one : Parameter} (room : leb 16 l.parameters ≡ false) (e : one ≡ (parameter_after text (replicate 32 0) l.step).parameter) where
    pub parameter-stops : {r : Loading} {stop : Refusal} → one.step ≡ Err stop → r ≡ moved_by l one.step
        → progress_of r ps rs vs ≡ parameter_with (judge text) text here
    unfolding parameter_with taken progress_of
    parameter-stops stop m = moved_to_lem l _ ps rs vs m ∙ rw (room, ← e, stop)

    pub parameter-goes : {t : List ℕ} (qs : List ℕ) (j : Judging) {next : ℕ} → t ≡ (parameter_after text (replicate 32 0) l.step).table → one.step ≡ Ok next
        → state_of j qs rs vs ≡ unless_stopped state (judge_parameter text state (record { parameter = one; table = t }))
        → progress_of (record { parameters = l.parameters + 1; registers = l.registers; variables = l.variables; judging = j; step = one.step }) qs rs vs
        ≡ parameter_with (judge text) text here
    unfolding parameter_with counted judge progress_of
    parameter-goes qs j f goes s =
        rw (room, parameter-read e f)
        (ap (λ (x : State). next-parameter x one.step) s ∙ ap (next-parameter (unless_stopped state (judge_parameter text state _))) goes ∙ sym (taken-goes text here _ goes))

  -- ---- a register
  module _ {one : Register} {end : Step} (room : leb 64 l.registers ≡ false) (e : one ≡ register_after text l.step) (f : end ≡ fixed_after text 315 one.step) where
    pub register-stops : {r : Loading} {stop : Refusal} → end ≡ Err stop → r ≡ moved_by l end → progress_of r ps rs vs ≡ register_with (judge text) text here
    unfolding register_with taken progress_of
    register-stops stop m = moved_to_lem l _ ps rs vs m ∙ rw (room, ← e, ← f, stop)

    pub register-goes : (qs : List ℕ) (j : Judging) {next : ℕ} → end ≡ Ok next → state_of j ps qs vs ≡ unless_stopped state (judge_register text state one)
        → progress_of (record { parameters = l.parameters; registers = l.registers + 1; variables = l.variables; judging = j; step = end }) ps qs vs
        ≡ register_with (judge text) text here
    unfolding register_with taken counted judge progress_of
    register-goes qs j goes s = rw (room, ← e, ← f, goes, s)

  -- ---- a variable
  module _ {one : Variable} {end : Step} (room : leb 128 l.variables ≡ false)
      (e : one ≡ (variable_after text (replicate 40 0) (replicate 40 0) l.step).variable) (f : end ≡ fixed_after text 315 one.step) where
    pub variable-stops : {r : Loading} {stop : Refusal} → end ≡ Err stop → r ≡ moved_by l end → progress_of r ps rs vs ≡ variable_with (judge text) text here
    unfolding variable_with taken progress_of
    variable-stops stop m = moved_to_lem l _ ps rs vs m ∙ rw (room, ← e, ← f, stop)

    module _ {a b : List ℕ} (qs : List ℕ) (j : Judging) {next : ℕ} (g : a ≡ (variable_after text (replicate 40 0) (replicate 40 0) l.step).first)
        (h : b ≡ (variable_after text (replicate 40 0) (replicate 40 0) l.step).second) (goes : end ≡ Ok next)
        (s : state_of j ps rs qs ≡ unless_stopped state (judge_variable text state (read_of one a b))) {after : Loading} (m : after ≡ variable_more l j end) where
      pub variable-goes : progress_of after ps rs qs ≡ variable_with (judge text) text here
      unfolding variable_with taken counted judge progress_of read_of
      variable-goes = rw (m, room, variable-read e g h, ← f, goes, s)

      counted_is : progress_of after ps rs qs ≡ counted (judge text) here (a_variable (read_of one a b)) next
      unfolding counted judge progress_of
      counted_is = rw (m, goes, s)

      pub variable-ready : {reads writes reads' writes' : List ℕ} → Ready here reads writes → MappedUnless j.fault qs (count_of vs + 1) reads' writes'
          → Ready (progress_of after ps rs qs) reads' writes'
      unfolding progress_of read_of unless_stopped state_of
      variable-ready {reads' = reads'} {writes' = writes'} ready mapped =
          subst (λ (p : Progress State). Ready p reads' writes') (sym counted_is)
          (ready-variable text here (read_of one a b) next ready room (subst WellRead (sym e) (well-read text _ _ _)) (mapped-judged j ps rs qs (count_of vs + 1) s mapped))

  -- a move leaves all that is kept as it was
  pub ready-still : {r : Loading} (s : Step) {reads writes : List ℕ} → r ≡ moved_by l s → Ready here reads writes → Ready (progress_of r ps rs vs) reads writes
  ready-still s {reads = reads} {writes = writes} m ready =
      subst (λ (p : Progress State). Ready p reads writes) (sym (moved_to_lem l s ps rs vs m)) (ready_moved [] here ready s)
