-- What the code keeps beside the tables is kept by every declaration.
-- Assumes nothing.
use Prim.Native.Nat.{ℕ, ◌+◌, ◌*◌, ◌≤◌, min}
use native.Mathlib.Omega.{arith}
use native.Mathlib.Nat.{min-le_left}
use mathlib.Core.Path.{◌≡◌, refl}
use mathlib.Core.Bool.{Bool, true, false}
use mathlib.Core.List.{List}
use lib.Dec.{leb}
use lib.ListN.{length, get_or, set, length-set, get_or-eq_default}
use lib.Seq.{get_or-set_same}
use borrow.Author.Tests.{leb-false, leb-true}
use Rattle.std.specs.Prelude.{None, Ok, Err}
use Rattle.syntax.specs.Step.{Step}
use Rattle.syntax.specs.declared.register.Register.{Register}
use Rattle.syntax.specs.Reader.{fixed_after, extra_after}
use Rattle.syntax.specs.Register.{register_after}
use Rattle.syntax.specs.Text.{Progress, a_register, moved_to, counted, taken, register_with}
use Rattle.tables.specs.Words.{count_of}
use Rattle.rules.specs.Fault.{is_fault}
use Rattle.rules.specs.Words.{word_of, written, appended}
use Rattle.rules.specs.State.{State, unless_stopped, unless_broken, stopped, with_registers}
use Rattle.rules.specs.Register.{register_written, register_entry, added_register, judge_register}
use Rattle.rules.proofs.FaultLaws.{is-none}
use Rattle.loader.specs.Judge.{judge}
use Rattle.loader.specs.Ready.{Ready}

-- a count after one entry more
pub count-after : (stride : ℕ) (t words : List ℕ) → count_of (appended stride t words) ≤ count_of t + 1
unfolding appended word_of
count-after stride t words = go (leb 1 (length whole)) refl
  where
    whole : List ℕ
    whole = written t (stride * count_of t + 1) words

    go : (b : Bool) → leb 1 (length whole) ≡ b → get_or (set whole 0 (min (count_of t + 1) 4294967295)) 0 0 ≤ count_of t + 1
    go true e = rw (get_or-set_same whole 0 (min (count_of t + 1) 4294967295) 0 (leb-true 1 (length whole) e)) (min-le_left (count_of t + 1) 4294967295)
    go false e =
        rw (get_or-eq_default (set whole 0 (min (count_of t + 1) 4294967295)) 0 {n = 0} (omega (arith, length-set whole 0 (min (count_of t + 1) 4294967295), leb-false 1 (length whole) e)))
        (omega arith)

-- what judging a register changes: only registers, one more at most; and a fault is never lost
pub record Kept (s t : State) : Type 0 where
  pub registers : count_of t.registers ≤ count_of s.registers + 1
  pub variables : t.variables ≡ s.variables
  pub fault : t.fault ≡ None → s.fault ≡ None

register-kept : (text : List ℕ) (s : State) (r : Register) → Kept s (unless_stopped s (judge_register text s r))
unfolding unless_stopped judge_register unless_broken added_register with_registers stopped
register-kept text s r = go (is_fault s.fault) (is_fault (register_written text s r)) refl refl
  where
    go : (a b : Bool) → is_fault s.fault ≡ a → is_fault (register_written text s r) ≡ b → Kept s (unless_stopped s (judge_register text s r))
    go true b e g = rw e (record { registers = omega arith; variables = refl; fault = λ z. z })
    go false true e g = rw (e, g) (record { registers = omega arith; variables = refl; fault = λ z. is-none s.fault e })
    go false false e g =
        rw (e, g)
        (record { registers = count-after 15 s.registers (register_entry text s.parameters r); variables = refl; fault = λ z. is-none s.fault e })

module _ (text : List ℕ) (p : Progress State) {reads writes : List ℕ} (ready : Ready p reads writes) where
  pub ready_moved : (s : Step) → Ready (moved_to p s) reads writes
  unfolding moved_to
  ready_moved s =
      record {
        registers-counted = ready.registers-counted;
        registers-few = ready.registers-few;
        variables-counted = ready.variables-counted;
        variables-few = ready.variables-few;
        long = ready.long;
        shaped = ready.shaped;
        mapped = ready.mapped;
      }

  ready-counted : (r : Register) (next : ℕ) → leb 64 p.registers ≡ false → Ready (counted (judge text) p (a_register r) next) reads writes
  unfolding counted judge
  ready-counted r next room =
      let k = register-kept text p.made r in
      record {
        registers-counted = omega (arith, k.registers, ready.registers-counted);
        registers-few = omega (arith, leb-false 64 p.registers room);
        variables-counted = rw k.variables ready.variables-counted;
        variables-few = ready.variables-few;
        long = rw k.variables ready.long;
        shaped = λ z. rw k.variables (ready.shaped (k.fault z));
        mapped = λ z. rw k.variables (ready.mapped (k.fault z));
      }

  pub ready-register : Ready (register_with (judge text) text p) reads writes
  unfolding register_with taken
  ready-register = go (leb 64 p.registers) refl (fixed_after text 315 (register_after text p.step).step) refl
    where
      go : (b : Bool) → leb 64 p.registers ≡ b → (s : Step) → fixed_after text 315 (register_after text p.step).step ≡ s
          → Ready (register_with (judge text) text p) reads writes
      go true e s g = rw e (ready_moved (extra_after text 529 p.step))
      go false e (Err stop) g = rw (e, g) (ready_moved (Err stop))
      go false e (Ok next) g = rw (e, g) (ready-counted (register_after text p.step) next e)
