-- While no rule is broken, the tables grow as `Growth` wants it: each entry is as refusal 20 wants it, and what is not
-- used is zero. Assumes nothing.
use Prim.Native.Nat.{ℕ, ◌+◌, ◌*◌, ◌≤◌, ◌<◌}
use native.Mathlib.Omega.{arith}
use mathlib.Core.Path.{◌≡◌, ap, ◌∙◌}
use mathlib.Core.Bool.{true, ◌&&◌, ◌||◌}
use mathlib.Core.List.{List}
use lib.ListN.{length}
use borrow.Author.Tests.{eq-eqb}
use Rattle.syntax.specs.declared.register.Register.{Register}
use Rattle.syntax.specs.Parameter.{ParameterRead}
use Rattle.tables.specs.Tables.{count_of, register_part_of, register_width}
use Rattle.bits.specs.Widths.{is_width}
use Rattle.tables.specs.Rules.{parameter_fault, parameter_shape, placed, place_taken, register_fault, register_shape, width_kept}
use Rattle.tables.specs.Sound.{parameter_good, register_good}
use Rattle.tables.proofs.Consistent.{register-parts}
use Rattle.tables.proofs.Growth.{Added, SoFar, parameter-added, register-added}
use Rattle.logic.proofs.Tests.{and_left}
use Rattle.std.specs.Prelude.{None}
use Rattle.rules.specs.State.{State, with_parameters, with_registers}
use Rattle.rules.specs.Names.{declared_before}
use Rattle.rules.specs.Words.{appended}
use Rattle.rules.specs.Parameter.{parameter_entry, added_parameter, judge_parameter}
use Rattle.rules.specs.Register.{register_entry, register_written, added_register, judge_register}
use Rattle.rules.proofs.FaultLaws.{of-none}
use Rattle.rules.proofs.JudgingLaws.{unbroken}
use Rattle.rules.proofs.AppendLaws.{length-appended, appended-added}
use Rattle.rules.proofs.ParameterShape.{Sets}
use Rattle.rules.proofs.ParameterShape as P
use Rattle.rules.proofs.RegisterShape as R

-- how many entries there are, in tables that are long enough for all there may be
pub record Growing (p r v : ℕ) (s : State) : Type 0 where
  pub so_far : SoFar s.parameters s.registers s.variables
  pub parameters-long : 577 ≤ length s.parameters
  pub registers-long : 961 ≤ length s.registers
  pub variables-long : 7553 ≤ length s.variables
  pub parameters-counted : count_of s.parameters ≡ p
  pub registers-counted : count_of s.registers ≡ r
  pub variables-counted : count_of s.variables ≡ v

parameter_good_lem : (ps : List ℕ) (i : ℕ) → parameter_shape ps i ≡ true → parameter_fault ps i ≡ 0 → parameter_good ps i ≡ true
unfolding parameter_good
parameter_good_lem ps i s f = rw (s, f)

register_good_lem : (ps rs : List ℕ) (i : ℕ) → register_shape ps rs i ≡ true → register_fault ps rs i ≡ 0 → register_good ps rs i ≡ true
unfolding register_good
register_good_lem ps rs i s f = rw (s, f)

-- ---- a parameter
module _ (text : List ℕ) {p r v : ℕ} (s : State) (d : ParameterRead) (g : Growing p r v s) (sets : Sets d) (no_register : r ≡ 0) (no-variable : v ≡ 0) (few : p < 16) where
  abbrev ps : List ℕ
  ps = s.parameters

  abbrev ps_more : List ℕ
  ps_more = appended 36 ps (parameter_entry d)

  ps-fits : 36 * count_of ps + 37 ≤ length ps
  ps-fits = omega (arith, g.parameters-long, g.parameters-counted)

  ps-added : Added 36 ps ps_more
  ps-added = appended-added 36 ps (parameter_entry d) (omega (arith, g.parameters-long)) (omega (arith, g.parameters-counted)) (omega (arith, P.entry-long d sets))

  pub grow-parameter : (judge_parameter text s d).fault ≡ None → Growing (p + 1) r v (judge_parameter text s d)
  unfolding judge_parameter added_parameter with_parameters
  grow-parameter none =
      let kept = unbroken s (declared_before text s d.parameter.place d.parameter.length) (added_parameter s d) none in
      rw kept.1.0
      (record {
        so_far = parameter-added s.registers s.variables g.so_far (g.registers-counted ∙ no_register) (g.variables-counted ∙ no-variable) ps-added
            (parameter_good_lem ps_more (count_of ps) (P.parameter_shape_lem ps d sets ps-fits) (of-none _ _ kept.1.1));
        parameters-long = omega (arith, length-appended 36 ps (parameter_entry d), g.parameters-long);
        registers-long = g.registers-long;
        variables-long = g.variables-long;
        parameters-counted = ps-added.count ∙ ap (λ (n : ℕ). n + 1) g.parameters-counted;
        registers-counted = g.registers-counted;
        variables-counted = g.variables-counted;
      })

-- ---- a register
-- 12 is not broken
fault-wide : (ps rs : List ℕ) (i : ℕ) → register_fault ps rs i ≡ 0 → is_width (register_width rs i) ≡ true
unfolding register_fault width_kept
fault-wide ps rs i none =
    and_left (is_width (register_width rs i)) _
    (register-parts (placed ps (register_part_of rs 0 i) && placed ps (register_part_of rs 1 i)) (place_taken rs 0 i || place_taken rs 1 i) (width_kept ps rs i)
    (eq-eqb _ 0 none)).1

module _ (text : List ℕ) {p r v : ℕ} (s : State) (d : Register) (g : Growing p r v s) (few : r < 64) (few-parameters : p ≤ 16) where
  abbrev rs : List ℕ
  rs = s.registers

  abbrev rs-more : List ℕ
  rs-more = appended 15 rs (register_entry text s.parameters d)

  rs-fits : 15 * count_of rs + 16 ≤ length rs
  rs-fits = omega (arith, g.registers-long, g.registers-counted)

  pub grow-register : (judge_register text s d).fault ≡ None → Growing p (r + 1) v (judge_register text s d)
  unfolding judge_register added_register with_registers
  grow-register none =
      let kept = unbroken s (register_written text s d) (added_register text s d) none in
      let long = R.entry-long text s d kept.0 in
      let added : Added 15 rs rs-more =
      appended-added 15 rs (register_entry text s.parameters d) (omega (arith, g.registers-long)) (omega (arith, g.registers-counted)) (omega arith) in
      rw kept.1.0
      (record {
        so_far = register-added s.parameters s.variables g.so_far added
            (register_good_lem s.parameters rs-more (count_of rs) (R.register_shape_lem text s d kept.0 rs-fits (omega (arith, g.parameters-counted)) (fault-wide s.parameters rs-more (count_of rs) (of-none _ _ kept.1.1))) (of-none _ _ kept.1.1));
        parameters-long = g.parameters-long;
        registers-long = omega (arith, length-appended 15 rs (register_entry text s.parameters d), g.registers-long);
        variables-long = g.variables-long;
        parameters-counted = g.parameters-counted;
        registers-counted = added.count ∙ ap (λ (n : ℕ). n + 1) g.registers-counted;
        variables-counted = g.variables-counted;
      })
