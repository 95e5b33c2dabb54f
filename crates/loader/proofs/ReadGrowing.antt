-- Over a whole text: as long as no rule is broken, the tables count what was read, and each entry is as refusal 20
-- wants it. Assumes nothing.
use Prim.Native.Nat.{ℕ, ◌+◌, ◌≤◌, ◌<◌}
use native.Mathlib.Omega.{arith}
use mathlib.Core.Path.{◌≡◌, refl, sym, ap, ◌∙◌, subst}
use mathlib.Core.Bool.{Bool, true, false, cond}
use mathlib.Core.List.{List}
use lib.Dec.{eqb, leb}
use lib.ListN.{length, replicate}
use Rattle.std.specs.Prelude.{None, Ok, Err}
use Rattle.token.specs.Kind.{kind_of}
use Rattle.token.specs.Scan.{scan_at}
use Rattle.syntax.specs.Step.{Step}
use Rattle.syntax.specs.declared.reader.Named.{Named}
use Rattle.syntax.specs.declared.register.Register.{Register}
use Rattle.syntax.specs.KindNames.{sign, end-kind, 'register', 'variable'}
use Rattle.syntax.specs.Limits.{most_registers, most_variables}
use Rattle.syntax.specs.Reader.{seen_at, place_at, fixed_after, unexpected, too_many, extra_after}
use Rattle.syntax.specs.Parameter.{ParameterRead}
use Rattle.syntax.specs.Register.{register_after}
use Rattle.syntax.specs.Variable.{VariableRead, variable_after}
use Rattle.syntax.specs.Text.{Declaration, a_device, a_parameter, a_register, a_variable, Progress, begins, moved_to, counted, taken, register_with, variable_with, declaration_with, more_declarations, declarations_with, reading_with}
use Rattle.rules.specs.State.{State, unless_stopped}
use Rattle.rules.specs.Parameter.{judge_device, judge_parameter}
use Rattle.rules.specs.Register.{judge_register}
use Rattle.rules.specs.Variable.{judge_variable}
use Rattle.loader.specs.Judge.{judge}
use Rattle.syntax.proofs.LoopSteps.{loop-keeps}
use Rattle.rules.proofs.ParameterShape.{Sets}
use Rattle.loader.proofs.PieceCounts.{WellRead}
use Rattle.loader.proofs.ReadKeeps.{parameters-keep, declarations-keep}
use Rattle.rules.proofs.JudgingLaws.{unstopped}
use Rattle.rules.proofs.Growing.{Growing, grow-parameter, grow-register}
use Rattle.loader.proofs.GrowingVariable.{grow-variable}

-- no more is read than there may be; where no rule is broken, the tables have grown with it
pub record Reached (p : Progress State) : Type 0 where
  pub few-parameters : p.parameters ≤ 16
  pub few-registers : p.registers ≤ 64
  pub few-variables : p.variables ≤ 128
  pub grown : p.made.fault ≡ None → Growing p.parameters p.registers p.variables p.made

-- parameters all come before the first register
record Heading (p : Progress State) : Type 0 where
  reached : Reached p
  no_register : p.registers ≡ 0
  no-variable : p.variables ≡ 0

-- what an unstopped judging makes of growing tables
grown-by : {p r v p' r' v' : ℕ} (s next : State) → (s.fault ≡ None → Growing p r v s)
    → (Growing p r v s → next.fault ≡ None → Growing p' r' v' next) → (unless_stopped s next).fault ≡ None → Growing p' r' v' (unless_stopped s next)
grown-by {p' = p'} {r' = r'} {v' = v'} s next before turn h =
    let u = unstopped s next h in
    let z : next.fault ≡ None = ap (λ (t : State). t.fault) (sym u.1) ∙ h in
    subst (λ (t : State). Growing p' r' v' t) (sym u.1) (turn (before u.0) z)

module _ (text : List ℕ) where
  moved : (p : Progress State) (s : Step) → Reached p → Reached (moved_to p s)
  unfolding moved_to
  moved p s h = record { few-parameters = h.few-parameters; few-registers = h.few-registers; few-variables = h.few-variables; grown = h.grown }

  heading-moved : (p : Progress State) (s : Step) → Heading p → Heading (moved_to p s)
  unfolding moved_to
  heading-moved p s h = record { reached = moved p s h.reached; no_register = h.no_register; no-variable = h.no-variable }

  -- the device only gives its name
  head_counted : (p : Progress State) (d : Named) (next : ℕ) → Heading p → Heading (counted (judge text) p (a_device d) next)
  unfolding counted judge judge_device
  head_counted p d next h =
      record {
        reached =
            record {
              few-parameters = h.reached.few-parameters;
              few-registers = h.reached.few-registers;
              few-variables = h.reached.few-variables;
              grown = λ z.
                  let g = h.reached.grown z in
                  record {
                    so_far = g.so_far;
                    parameters-long = g.parameters-long;
                    registers-long = g.registers-long;
                    variables-long = g.variables-long;
                    parameters-counted = g.parameters-counted;
                    registers-counted = g.registers-counted;
                    variables-counted = g.variables-counted;
                  };
            };
        no_register = h.no_register;
        no-variable = h.no-variable;
      }

  parameter-counted : (p : Progress State) (d : ParameterRead) (next : ℕ) → p.parameters < 16 → Sets d → Heading p → Heading (counted (judge text) p (a_parameter d) next)
  unfolding counted judge
  parameter-counted p d next few sets h =
      record {
        reached =
            record {
              few-parameters = omega arith;
              few-registers = h.reached.few-registers;
              few-variables = h.reached.few-variables;
              grown = grown-by p.made (judge_parameter text p.made d) h.reached.grown
                  (λ g z. grow-parameter text p.made d g sets h.no_register h.no-variable few z);
            };
        no_register = h.no_register;
        no-variable = h.no-variable;
      }

  register-counted : (p : Progress State) (d : Register) (next : ℕ) → p.registers < 64 → Reached p → Reached (counted (judge text) p (a_register d) next)
  unfolding counted judge
  register-counted p d next few h =
      record {
        few-parameters = h.few-parameters;
        few-registers = omega arith;
        few-variables = h.few-variables;
        grown = grown-by p.made (judge_register text p.made d) h.grown (λ g z. grow-register text p.made d g few h.few-parameters z);
      }

  variable-counted : (p : Progress State) (d : VariableRead) (next : ℕ) → p.variables < 128 → WellRead d.variable → Reached p
      → Reached (counted (judge text) p (a_variable d) next)
  unfolding counted judge
  variable-counted p d next few read h =
      record {
        few-parameters = h.few-parameters;
        few-registers = h.few-registers;
        few-variables = omega arith;
        grown = grown-by p.made (judge_variable text p.made d) h.grown
            (λ g z. grow-variable text p.made d g read few z);
      }

  pub reached-reading : (x : State) → Growing 0 0 0 x → Reached (reading_with (judge text) text x)
  unfolding reading_with
  reached-reading x g =
      moved _ _
      (declarations-keep (judge text) text Reached moved register-counted variable-counted _
      (parameters-keep (judge text) text Heading heading-moved head_counted parameter-counted _
      (record {
        reached = record { few-parameters = omega arith; few-registers = omega arith; few-variables = omega arith; grown = λ z. g };
        no_register = refl;
        no-variable = refl;
      })).reached)

-- ---- something is declared, where the reading goes on
abbrev pub went : Step → ℕ
went (Ok next) = 1
went (Err stop) = 0

abbrev pub Some : Progress State → Type 0
Some p = went p.step ≤ p.registers + p.variables

module _ (text : List ℕ) where
  fixed-went : (kind : ℕ) (s : Step) → went (fixed_after text kind s) ≤ went s
  unfolding fixed_after unexpected
  fixed-went kind (Err stop) = omega arith
  fixed-went kind (Ok at) = go (eqb (kind_of (scan_at text at).token) kind) refl
    where
      go : (b : Bool) → eqb (kind_of (scan_at text at).token) kind ≡ b → went (fixed_after text kind (Ok at)) ≤ went (Ok at)
      go true e = rw e (omega arith)
      go false e = rw e (omega arith)

  many-went : (place : ℕ) (s : Step) → went (too_many place s) ≡ 0
  unfolding too_many
  many-went place (Ok next) = refl
  many-went place (Err stop) = refl

  -- one declaration more: one too many stops the reading, and so does one that is not whole
  some_next : (p : Progress State) (full : Bool) (kind : ℕ) (d : Declaration) (s : Step) → ((next : ℕ) → Some (counted (judge text) p d next))
      → Some (cond full (moved_to p (extra_after text kind p.step)) (taken (judge text) p d s))
  unfolding moved_to extra_after taken
  some_next p true kind d s one = omega (arith, many-went (place_at text p.step) (fixed_after text kind p.step))
  some_next p false kind d (Ok next) one = one next
  some_next p false kind d (Err stop) one = omega arith

  some_declaration : (p : Progress State) → Some (declaration_with (judge text) text p)
  unfolding declaration_with register_with variable_with counted
  some_declaration p = go (eqb (seen_at text p.step).kind 'register') refl
    where
      register : Register
      register = register_after text p.step

      variable : VariableRead
      variable = variable_after text (replicate 40 0) (replicate 40 0) p.step

      go : (b : Bool) → eqb (seen_at text p.step).kind 'register' ≡ b → Some (declaration_with (judge text) text p)
      go true e =
          rw e (some_next p (leb most_registers p.registers) 'register' (a_register register) (fixed_after text (sign ";") register.step) (λ next. omega arith))
      go false e =
          rw e (some_next p (leb most_variables p.variables) 'variable' (a_variable variable) (fixed_after text (sign ";") variable.variable.step) (λ next. omega arith))

  some-moved : (p : Progress State) (kind : ℕ) → Some p → Some (moved_to p (fixed_after text kind p.step))
  unfolding moved_to
  some-moved p kind h = omega (arith, fixed-went kind p.step)

  pub some-reading : (x : State) → Some (reading_with (judge text) text x)
  unfolding reading_with declarations_with more_declarations
  some-reading x =
      some-moved _ end-kind
      (some-moved _ (sign "}")
      (loop-keeps text (λ q. q.step) begins (declaration_with (judge text) text) Some (λ q e h. some_declaration q) (length text) _ (some_declaration _)))
