-- The numbers that 3 to 5 and 6 to 15 are given by.
-- Assumes nothing.
use Prim.Native.Nat.{ℕ, zero, suc, ◌≤◌, min}
use native.Mathlib.Omega.{arith}
use native.Mathlib.Nat.{min-eq_left, min-eq_right, le_of_lt}
use mathlib.Core.Path.{◌≡◌, refl, sym, ap, ◌∙◌}
use mathlib.Core.Bool.{Bool, true, false, ◌&&◌, ◌||◌, cond}
use mathlib.Core.Logic.{inl, inr}
use mathlib.Core.List.{List, [], ◌∷◌, foldl}
use lib.Dec.{eqb, leb}
use borrow.Author.Tests.{leb-true, leb-false}
use Rattle.std.specs.Prelude.{Option, Some, None}
use Rattle.token.specs.declared.Token.{Token}
use Rattle.token.specs.declared.Reason.{Reason}
use Rattle.token.specs.declared.Reason.TheVariants.{NoToken, Unexpected, TooMuch}
use Rattle.token.specs.Kind.{number_of, why_of, refused_as}
use Rattle.syntax.specs.Step.{refused_at}
use Rattle.syntax.specs.declared.register.Register.{Register}
use Rattle.syntax.specs.Parameter.{ParameterRead}
use Rattle.syntax.specs.Variable.{VariableRead}
use Rattle.syntax.specs.Claim.{token_no, Right}
use Rattle.syntax.specs.Text.{Declaration, a_device, a_parameter, a_register, a_variable}
use Rattle.bits.specs.Widths.{is_width}
use Rattle.tables.specs.Rules.{ranges_fit, parameter_fault, placed, place_taken, width_kept, register_fault, part_maps, type_fits, volatile_fits, own_fault, mapped_before, trigger_shared, variable_fault}
use Rattle.tables.specs.Tables.{parameter_width, register_part_of, variable_part_of}
use Rattle.logic.proofs.Tests.{and_left, and_right}
use Rattle.rules.specs.declared.fault.Fault.{Fault}
use Rattle.rules.specs.Fault.{fault_if, fault_of, only, is_fault, or_else}
use Rattle.rules.specs.State.{State, unless_stopped, unless_broken, stopped, with_parameters, with_registers, with_variables}
use Rattle.rules.specs.Names.{declared_before}
use Rattle.rules.specs.Parameter.{judge_device, added_parameter, judge_parameter}
use Rattle.rules.specs.Register.{unknown_port, bad_offset, register_written, added_register, judge_register}
use Rattle.rules.specs.Lists.{unknown_in}
use Rattle.rules.specs.Variable.{bad_behaviours, lowest, list_of, name_fault, early_fault, late_number, added_variable, judge_variable}
use Rattle.loader.specs.Judge.{judge}
use Rattle.loader.specs.Load.{beginning}
use Rattle.loader.specs.Claim.{standing}

-- ---- 3 to 5
pub reason-number : (why : Reason) → (3 ≤ number_of why) × (number_of why ≤ 5)
reason-number NoToken = (omega arith, omega arith)
reason-number Unexpected = (omega arith, omega arith)
reason-number TooMuch = (omega arith, omega arith)

-- and each of the three is a reason's
pub reason-of : (number : ℕ) → 3 ≤ number → number ≤ 5 → (why : Reason) × (number ≡ number_of why)
reason-of zero l m = absurd (omega arith)
reason-of (suc zero) l m = absurd (omega arith)
reason-of (suc (suc zero)) l m = absurd (omega arith)
reason-of (suc (suc (suc zero))) l m = (NoToken, refl)
reason-of (suc (suc (suc (suc zero)))) l m = (Unexpected, refl)
reason-of (suc (suc (suc (suc (suc zero))))) l m = (TooMuch, refl)
reason-of (suc (suc (suc (suc (suc (suc n)))))) l m = absurd (omega arith)

token-number : (t : Token) → (3 ≤ refused_as t) × (refused_as t ≤ 5)
token-number t = reason-number (why_of t)

pub reading-number : (text : List ℕ) (number place : ℕ) → Right text (refused_at number place) → (3 ≤ number) × (number ≤ 5)
unfolding Right
reading-number text number place (inl r) =
    let t = token-number (token_no text r.0.token) in
    (omega (arith, r.0.number_is, t.0), omega (arith, r.0.number_is, t.1))
reading-number text number place (inr r) = (omega (arith, r.is-five), omega (arith, r.is-five))

-- ---- 6 to 15, or 0 for none
unfoldable ruled : ℕ → Bool
ruled n = eqb n 0 || (leb 6 n && leb n 15)

given : (n : ℕ) → (eqb n 0 || (leb 6 n && leb n 15)) ≡ true → ruled n ≡ true
unfolding ruled
given n h = h

-- a fault that is there has a number of 6 to 15
unfoldable numbered : Option Fault → Bool
numbered None = true
numbered (Some x) = leb 6 x.number && leb x.number 15

if-numbered : (b : Bool) (number place : ℕ) → (leb 6 number && leb number 15) ≡ true → numbered (fault_if b number place) ≡ true
unfolding numbered fault_if
if-numbered true number place h = h
if-numbered false number place h = refl

of-numbered : (number place : ℕ) → ruled number ≡ true → numbered (fault_of number place) ≡ true
unfolding numbered ruled fault_of fault_if
of-numbered number place h = go (eqb number 0) refl
  where
    go : (b : Bool) → eqb number 0 ≡ b → numbered (fault_of number place) ≡ true
    go true e = rw e
    go false e = rw e (sym (rw e) ∙ h)

only-numbered : (b : Bool) (f : Option Fault) → numbered f ≡ true → numbered (only b f) ≡ true
unfolding numbered only
only-numbered true f h = h
only-numbered false f h = refl

or-numbered : (f g : Option Fault) → numbered f ≡ true → numbered g ≡ true → numbered (or_else f g) ≡ true
unfolding or_else
or-numbered None g h k = k
or-numbered (Some x) g h k = h

cond-ruled : (b : Bool) (n m : ℕ) → ruled n ≡ true → ruled m ≡ true → ruled (cond b n m) ≡ true
cond-ruled true n m h k = h
cond-ruled false n m h k = k

least-ruled : (a b : ℕ) → ruled a ≡ true → ruled b ≡ true → ruled (lowest a b) ≡ true
unfolding lowest
least-ruled a b h k = cond-ruled (eqb a 0) b _ k (cond-ruled (eqb b 0) a _ h (go (leb a b) refl))
  where
    go : (c : Bool) → leb a b ≡ c → ruled (min a b) ≡ true
    go true e = rw (min-eq_left (leb-true a b e)) h
    go false e = let l : b ≤ a = le_of_lt (leb-false a b e) in rw (min-eq_right l) k

state-numbered : (b : Bool) (s t : State) → numbered s.fault ≡ true → numbered t.fault ≡ true → numbered (cond b s t).fault ≡ true
state-numbered true s t h k = h
state-numbered false s t h k = k

broken-numbered : (s : State) (before : Option Fault) (entered : State) → numbered before ≡ true → numbered entered.fault ≡ true
    → numbered (unless_broken s before entered).fault ≡ true
unfolding unless_broken stopped
broken-numbered s before entered h k = state-numbered (is_fault before) (stopped s before) entered h k

module _ (text : List ℕ) where
  declared-numbered : (s : State) (place extent : ℕ) → numbered (declared_before text s place extent) ≡ true
  unfolding declared_before
  declared-numbered s place extent = if-numbered _ 6 place refl

  unknown-numbered : (rs list : List ℕ) (n : ℕ) → numbered (unknown_in text rs list n) ≡ true
  unfolding unknown_in numbered
  unknown-numbered rs list zero = refl
  unknown-numbered rs list (suc n) = or-numbered (unknown_in text rs list n) _ (unknown-numbered rs list n) (if-numbered _ 7 _ refl)

  parameter-number : (ps : List ℕ) (i : ℕ) → ruled (parameter_fault ps i) ≡ true
  unfolding parameter_fault
  parameter-number ps i = cond-ruled (ranges_fit ps i) _ 8 (cond-ruled (is_width (parameter_width ps i)) 0 12 (given 0 refl) (given 12 refl)) (given 8 refl)

  parameter-numbered : (s : State) (d : ParameterRead) → numbered (judge_parameter text s d).fault ≡ true
  unfolding judge_parameter added_parameter with_parameters
  parameter-numbered s d = broken-numbered s (declared_before text s d.parameter.place d.parameter.length) (added_parameter s d) (declared-numbered s _ _) (of-numbered _ _ (parameter-number _ _))

  register-number : (ps rs : List ℕ) (i : ℕ) → ruled (register_fault ps rs i) ≡ true
  unfolding register_fault
  register-number ps rs i =
      cond-ruled (placed ps (register_part_of rs 0 i) && placed ps (register_part_of rs 1 i)) _ 8
      (cond-ruled (place_taken rs 0 i || place_taken rs 1 i) 10 _ (given 10 refl) (cond-ruled (width_kept ps rs i) 0 12 (given 0 refl) (given 12 refl))) (given 8 refl)

  written-numbered : (s : State) (d : Register) → numbered (register_written text s d) ≡ true
  unfolding register_written unknown_port bad_offset
  written-numbered s d =
      or-numbered _ _ (declared-numbered s _ _)
      (or-numbered _ _ (if-numbered _ 7 _ refl)
      (or-numbered _ _ (only-numbered _ _ (if-numbered _ 7 _ refl))
      (or-numbered _ _ (if-numbered _ 8 _ refl)
      (or-numbered _ _ (only-numbered _ _ (if-numbered _ 8 _ refl)) (if-numbered _ 9 _ refl)))))

  register-numbered : (s : State) (d : Register) → numbered (judge_register text s d).fault ≡ true
  unfolding judge_register added_register with_registers
  register-numbered s d = broken-numbered s (register_written text s d) (added_register text s d) (written-numbered s d) (of-numbered _ _ (register-number _ _ _))

  own-number : (rs vs : List ℕ) (v : ℕ) → ruled (own_fault rs vs v) ≡ true
  unfolding own_fault
  own-number rs vs v =
      cond-ruled (part_maps rs 0 (variable_part_of vs 0 v) && part_maps rs 1 (variable_part_of vs 1 v)) _ 11
      (cond-ruled (type_fits vs v) _ 12 (cond-ruled (volatile_fits vs v) 0 13 (given 0 refl) (given 13 refl)) (given 12 refl)) (given 11 refl)

  variable-number : (rs vs : List ℕ) (v : ℕ) → ruled (variable_fault rs vs v) ≡ true
  unfolding variable_fault
  variable-number rs vs v =
      cond-ruled (eqb (own_fault rs vs v) 0) _ (own_fault rs vs v)
      (cond-ruled (mapped_before vs 0 v || mapped_before vs 1 v) 14 _ (given 14 refl) (cond-ruled (trigger_shared vs 0 v || trigger_shared vs 1 v) 15 0 (given 15 refl) (given 0 refl)))
      (own-number rs vs v)

  early-numbered : (s : State) (d : VariableRead) → numbered (early_fault text s d) ≡ true
  unfolding early_fault name_fault
  early-numbered s d =
      or-numbered _ _
      (or-numbered _ _ (declared-numbered s _ _) (or-numbered _ _ (unknown-numbered s.registers d.first _) (unknown-numbered s.registers d.second _)))
      (if-numbered _ 11 _ refl)

  late-ruled : (s : State) (d : VariableRead) → ruled (late_number text s d) ≡ true
  unfolding late_number
  late-ruled s d =
      least-ruled _ _ (variable-number _ _ _)
      (cond-ruled (bad_behaviours d.variable.rest.behaviours (list_of text s d 0) (list_of text s d 1)) 13 0 (given 13 refl) (given 0 refl))

  variable-numbered : (s : State) (d : VariableRead) → numbered (judge_variable text s d).fault ≡ true
  unfolding judge_variable added_variable with_variables
  variable-numbered s d = broken-numbered s (early_fault text s d) (added_variable text s d) (early-numbered s d) (of-numbered _ _ (late-ruled s d))

  judge-numbered : (s : State) (d : Declaration) → numbered s.fault ≡ true → numbered (judge text s d).fault ≡ true
  unfolding judge judge_device unless_stopped
  judge-numbered s (a_device d) h = h
  judge-numbered s (a_parameter d) h = state-numbered (is_fault s.fault) s (judge_parameter text s d) h (parameter-numbered s d)
  judge-numbered s (a_register d) h = state-numbered (is_fault s.fault) s (judge_register text s d) h (register-numbered s d)
  judge-numbered s (a_variable d) h = state-numbered (is_fault s.fault) s (judge_variable text s d) h (variable-numbered s d)

  all-numbered : (ds : List Declaration) (s : State) → numbered s.fault ≡ true → numbered (foldl (judge text) s ds).fault ≡ true
  all-numbered [] s h = h
  all-numbered (d ∷ ds) s h = all-numbered ds (judge text s d) (judge-numbered s d h)

  pub standing-number : (ds : List Declaration) (x : Fault) → (standing text ds).fault ≡ Some x → (6 ≤ x.number) × (x.number ≤ 15)
  unfolding standing beginning numbered
  standing-number ds x some = go (sym (ap numbered some) ∙ all-numbered ds beginning refl)
    where
      go : (leb 6 x.number && leb x.number 15) ≡ true → (6 ≤ x.number) × (x.number ≤ 15)
      go h = (leb-true 6 x.number (and_left (leb 6 x.number) _ h), leb-true x.number 15 (and_right (leb 6 x.number) _ h))
