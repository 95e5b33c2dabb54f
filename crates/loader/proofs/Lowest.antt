-- THE LOWEST NUMBER FIRST: the fault of a parameter, a register and a variable is the first in the order of its rules.
-- Assumes nothing.
use Prim.Native.Nat.{ℕ, zero, suc, ◌*◌, ◌≤◌, ◌<◌}
use native.Mathlib.Omega.{arith}
use mathlib.Core.Path.{◌≡◌, refl, sym, ap, ◌∙◌}
use mathlib.Core.Bool.{Bool, true, false, ◌&&◌, ◌||◌, not, cond, false≢true}
use mathlib.Core.List.{List, [], ◌∷◌}
use lib.Dec.{eqb}
use lib.ListN.{get_or}
use Rattle.syntax.specs.Parameter.{ParameterRead}
use Rattle.syntax.specs.Variable.{VariableRead}
use Rattle.bits.specs.Widths.{is_width}
use Rattle.tables.specs.Rules.{ranges_fit, parameter_fault, place_taken, width_kept, register_fault, part_maps, type_fits, volatile_fits, own_fault, mapped_before, trigger_shared, variable_fault}
use Rattle.tables.specs.Tables.{count_of, parameter_width, variable_part_of}
use Rattle.std.specs.Prelude.{Option, Some, None}
use Rattle.rules.specs.declared.fault.Fault.{Fault}
use Rattle.rules.proofs.FaultLaws.{if-number, of-number, or-number, Named, named-none, named-if, named-only, named-or}
use Rattle.std.specs.Bool.{then_some}
use Rattle.rules.specs.Fault.{fault_if, fault_of, only, is_fault, or_else, number_in}
use Rattle.rules.specs.State.{State, stopped, unless_broken, with_parameters, with_registers, with_variables}
use Rattle.rules.specs.Names.{name_of, is_nothing, is_declared, declared_before}
use Rattle.rules.specs.Parameter.{parameter_entry, added_parameter, judge_parameter}
use Rattle.rules.specs.Words.{appended}
use Rattle.rules.specs.Register.{is_paired, masks_kept, unknown_port, bad_offset, register_entry, register_written, added_register, judge_register}
use Rattle.syntax.specs.declared.register.Register.{Register}
use Rattle.rules.specs.Lists.{unknown_in, piece_named}
use Rattle.rules.specs.Variable.{bad_behaviours, lowest, list_of, variables_with, name_fault, early_fault, late_number, added_variable, judge_variable}
use Rattle.rules.proofs.Growing.{Growing}
use Rattle.loader.specs.Order.{NamesRule, rule, first_of_rules, parameter_rules, is_unknown, is_misplaced, register_rules, variable_rules}
use Rattle.loader.proofs.Placed.{entry-placed}

-- ---- what is named, and its number
of-named : (number place : ℕ) → Named (fault_of number place)
unfolding fault_of fault_if
of-named number place = go (eqb number 0) refl
  where
    go : (b : Bool) → eqb number 0 ≡ b → Named (then_some (not (eqb number 0)) (record { number = number; place = place }))
    go true e = rw e refl
    go false e = rw e (sym (ap not e))

broken-named : (s : State) (before : Option Fault) (entered : State) → Named before → Named entered.fault → Named (unless_broken s before entered).fault
unfolding unless_broken stopped
broken-named s before entered h k = go (is_fault before)
  where
    go : (b : Bool) → Named (cond b (stopped s before) entered).fault
    go true = h
    go false = k

names-rule : (f : Option Fault) {n : ℕ} → number_in f ≡ n → Named f → NamesRule f n
names-rule None e h = sym e
names-rule (Some x) e h = (e, λ z. false≢true (sym (h ∙ ap (λ (m : ℕ). not (eqb m 0)) (e ∙ z))))

-- a piece that is named wrongly breaks 7, wherever it is
unknown-seven : (text rs list : List ℕ) (n : ℕ) → number_in (unknown_in text rs list n) ≡ cond (is_fault (unknown_in text rs list n)) 7 0
unfolding unknown_in or_else fault_if
unknown-seven text rs list zero = refl
unknown-seven text rs list (suc n) = go (unknown_in text rs list n) (is_nothing (piece_named text rs list n)) (get_or list (5 * n) 0) (unknown-seven text rs list n)
  where
    go : (f : Option Fault) (b : Bool) (place : ℕ) → number_in f ≡ cond (is_fault f) 7 0
        → number_in (or_else f (fault_if b 7 place)) ≡ cond (is_fault (or_else f (fault_if b 7 place))) 7 0
    go (Some x) b place h = h
    go None true place h = refl
    go None false place h = refl

unknown-named : (text rs list : List ℕ) (n : ℕ) → Named (unknown_in text rs list n)
unfolding unknown_in
unknown-named text rs list zero = named-none
unknown-named text rs list (suc n) = named-or _ _ (unknown-named text rs list n) (named-if _ 7 _ (λ z. cc))

-- ---- a parameter
parameter-order : (a b c : Bool) → cond a 6 (cond b (cond c 0 12) 8) ≡ first_of_rules (rule a 6 ∷ rule (not b) 8 ∷ rule (not c) 12 ∷ [])
unfolding first_of_rules
parameter-order true b c = refl
parameter-order false false c = refl
parameter-order false true true = refl
parameter-order false true false = refl

six_first : (a : Bool) (place : ℕ) (s t : State) → number_in (unless_broken s (fault_if a 6 place) t).fault ≡ cond a 6 (number_in t.fault)
unfolding unless_broken fault_if stopped
six_first true place s t = refl
six_first false place s t = refl

parameter-number : (text : List ℕ) (s : State) (d : ParameterRead) → number_in (judge_parameter text s d).fault ≡ first_of_rules (parameter_rules text s d)
unfolding judge_parameter declared_before added_parameter with_parameters parameter_fault parameter_rules
parameter-number text s d =
    let ps = appended 36 s.parameters (parameter_entry d) in
    let i = count_of s.parameters in
    let a = is_declared text s (name_of text d.parameter.place d.parameter.length) in
    six_first a d.parameter.place s (added_parameter s d) ∙ ap (cond a 6) (of-number (parameter_fault ps i) _) ∙ parameter-order a (ranges_fit ps i) (is_width (parameter_width ps i))

parameter-named : (text : List ℕ) (s : State) (d : ParameterRead) → Named (judge_parameter text s d).fault
unfolding judge_parameter declared_before added_parameter with_parameters
parameter-named text s d = broken-named s _ (added_parameter s d) (named-if _ 6 _ (λ z. cc)) (of-named _ _)

pub parameter-lowest : (text : List ℕ) (s : State) (d : ParameterRead) → NamesRule (judge_parameter text s d).fault (first_of_rules (parameter_rules text s d))
parameter-lowest text s d = names-rule _ (parameter-number text s d) (parameter-named text s d)

-- ---- a register
broken-number : (s : State) (before : Option Fault) (entered : State) → number_in (unless_broken s before entered).fault ≡ cond (is_fault before) (number_in before) (number_in entered.fault)
unfolding unless_broken stopped
broken-number s before entered = go (is_fault before)
  where
    go : (b : Bool) → number_in (cond b (stopped s before) entered).fault ≡ cond b (number_in before) (number_in entered.fault)
    go true = refl
    go false = refl

abbrev written : (a u o p : Bool) → ℕ
written a u o p = cond a 6 (cond u 7 (cond o 8 (cond p 9 0)))

written-order : (a u t w o v p : Bool) (i j k l m n : ℕ)
    → number_in (or_else (fault_if a 6 i) (or_else (fault_if u 7 j) (or_else (only t (fault_if w 7 k)) (or_else (fault_if o 8 l) (or_else (only t (fault_if v 8 m)) (fault_if p 9 n))))))
    ≡ written a (u || (t && w)) (o || (t && v)) p
unfolding or_else fault_if only
written-order true u t w o v p i j k l m n = refl
written-order false true t w o v p i j k l m n = refl
written-order false false true true o v p i j k l m n = refl
written-order false false true false true v p i j k l m n = refl
written-order false false true false false true p i j k l m n = refl
written-order false false true false false false true i j k l m n = refl
written-order false false true false false false false i j k l m n = refl
written-order false false false w true v p i j k l m n = refl
written-order false false false w false v true i j k l m n = refl
written-order false false false w false v false i j k l m n = refl

register-order : (a u o p x y : Bool) → cond (not (eqb (written a u o p) 0)) (written a u o p) (cond x 10 (cond y 0 12))
    ≡ first_of_rules (rule a 6 ∷ rule u 7 ∷ rule o 8 ∷ rule p 9 ∷ rule x 10 ∷ rule (not y) 12 ∷ [])
unfolding first_of_rules
register-order true u o p x y = refl
register-order false true o p x y = refl
register-order false false true p x y = refl
register-order false false false true x y = refl
register-order false false false false true y = refl
register-order false false false false false true = refl
register-order false false false false false false = refl

-- what comes after counts only where nothing is broken before
after_none : (f : Option Fault) (a b : ℕ) → Named f → (f ≡ None → a ≡ b) → cond (is_fault f) (number_in f) a ≡ cond (not (eqb (number_in f) 0)) (number_in f) b
after_none None a b n h = h refl
after_none (Some x) a b n h = rw (← n)

-- in tables that grew without a fault, as they do all along a text (`reached-reading`), with room for one more
module _ (text : List ℕ) {parameters registers variables : ℕ} (s : State) (r : Register) (grown : Growing parameters registers variables s) (few : parameters ≤ 16) (room : registers < 64) where
  abbrev rs : List ℕ
  rs = appended 15 s.registers (register_entry text s.parameters r)

  abbrev i : ℕ
  i = count_of s.registers

  written-named : Named (register_written text s r)
  unfolding register_written declared_before unknown_port bad_offset
  written-named =
      named-or _ _ (named-if _ 6 _ (λ z. cc))
      (named-or _ _ (named-if _ 7 _ (λ z. cc))
      (named-or _ _ (named-only _ _ (named-if _ 7 _ (λ z. cc)))
      (named-or _ _ (named-if _ 8 _ (λ z. cc)) (named-or _ _ (named-only _ _ (named-if _ 8 _ (λ z. cc))) (named-if _ 9 _ (λ z. cc))))))

  written_is : number_in (register_written text s r)
      ≡ written (is_declared text s (name_of text r.place r.length)) (is_unknown text s r.first || (r.two && is_unknown text s r.second))
      (is_misplaced text s r.first || (r.two && is_misplaced text s r.second)) (not (is_paired r && masks_kept r))
  unfolding register_written declared_before unknown_port bad_offset is_unknown is_misplaced
  written_is =
      written-order (is_declared text s (name_of text r.place r.length)) (is_unknown text s r.first) r.two (is_unknown text s r.second) (is_misplaced text s r.first)
      (is_misplaced text s r.second) (not (is_paired r && masks_kept r)) _ _ _ _ _ _

  -- 8 of the entry is never broken where 8 as written is not
  placed-is : register_written text s r ≡ None → register_fault s.parameters rs i ≡ cond (place_taken rs 0 i || place_taken rs 1 i) 10 (cond (width_kept s.parameters rs i) 0 12)
  unfolding register_fault
  placed-is none =
      rw (entry-placed text s r none grown.so_far.parameters (omega (arith, grown.parameters-counted)) (omega (arith, grown.registers-counted, grown.registers-long)))

  judged-register : number_in (judge_register text s r).fault ≡ cond (is_fault (register_written text s r)) (number_in (register_written text s r)) (register_fault s.parameters rs i)
  unfolding judge_register added_register with_registers
  judged-register =
      broken-number s (register_written text s r) (added_register text s r)
      ∙ ap (cond (is_fault (register_written text s r)) (number_in (register_written text s r))) (of-number (register_fault s.parameters rs i) _)

  register-number : number_in (judge_register text s r).fault ≡ first_of_rules (register_rules text s r)
  unfolding register_rules
  register-number =
      judged-register ∙ after_none (register_written text s r) _ _ written-named placed-is
      ∙ rw written_is
      (register-order (is_declared text s (name_of text r.place r.length)) (is_unknown text s r.first || (r.two && is_unknown text s r.second))
      (is_misplaced text s r.first || (r.two && is_misplaced text s r.second)) (not (is_paired r && masks_kept r)) (place_taken rs 0 i || place_taken rs 1 i) (width_kept s.parameters rs i))

  register-named : Named (judge_register text s r).fault
  unfolding judge_register added_register with_registers
  register-named = broken-named s _ (added_register text s r) written-named (of-named _ _)

  pub register-lowest : NamesRule (judge_register text s r).fault (first_of_rules (register_rules text s r))
  register-lowest = names-rule _ register-number register-named

-- ---- a variable
abbrev early : (a u w p : Bool) → ℕ
early a u w p = cond a 6 (cond u 7 (cond w 7 (cond p 11 0)))

abbrev own : (m t o : Bool) → ℕ
own m t o = cond m (cond t (cond o 0 13) 12) 11

abbrev entry : (m t o x y : Bool) → ℕ
entry m t o x y = cond (eqb (own m t o) 0) (cond x 14 (cond y 15 0)) (own m t o)

variable-order : (a u w p m t o b x y : Bool)
    → cond (not (eqb (early a u w p) 0)) (early a u w p) (lowest (entry m t o x y) (cond b 13 0))
    ≡ first_of_rules (rule a 6 ∷ rule (u || w) 7 ∷ rule (p || not m) 11 ∷ rule (not t) 12 ∷ rule (not o || b) 13 ∷ rule x 14 ∷ rule y 15 ∷ [])
unfolding first_of_rules lowest
variable-order true u w p m t o b x y = refl
variable-order false true w p m t o b x y = refl
variable-order false false true p m t o b x y = refl
variable-order false false false true m t o b x y = refl
variable-order false false false false false t o true x y = refl
variable-order false false false false false t o false x y = refl
variable-order false false false false true false o true x y = refl
variable-order false false false false true false o false x y = refl
variable-order false false false false true true false true x y = refl
variable-order false false false false true true false false x y = refl
variable-order false false false false true true true true true y = refl
variable-order false false false false true true true true false true = refl
variable-order false false false false true true true true false false = refl
variable-order false false false false true true true false true y = refl
variable-order false false false false true true true false false true = refl
variable-order false false false false true true true false false false = refl

module _ (text : List ℕ) (s : State) (it : VariableRead) where
  abbrev declared : Bool
  declared = is_declared text s (name_of text it.variable.place it.variable.length)

  abbrev firsts : Option Fault
  firsts = unknown_in text s.registers it.first it.variable.count

  abbrev seconds : Option Fault
  seconds = unknown_in text s.registers it.second it.variable.rest.count

  abbrev unpaired : Bool
  unpaired = eqb (list_of text s it 0) 0 && eqb (list_of text s it 1) 0

  picked : (b : Bool) (f : Option Fault) (n m : ℕ) → number_in f ≡ cond b n 0 → is_fault f ≡ b → cond (is_fault f) (number_in f) m ≡ cond b n m
  picked true f n m e g = rw (g, e)
  picked false f n m e g = rw g

  six_fault : (b : Bool) (place : ℕ) → is_fault (fault_if b 6 place) ≡ b
  unfolding fault_if
  six_fault true place = refl
  six_fault false place = refl

  names_are : number_in (name_fault text s it) ≡ cond declared 6 (cond (is_fault firsts) 7 (cond (is_fault seconds) 7 0))
  unfolding name_fault declared_before
  names_are =
      or-number _ _ ∙ picked declared _ 6 _ (if-number declared 6 _) (six_fault declared _)
      ∙ ap (cond declared 6) (or-number firsts seconds ∙ picked (is_fault firsts) firsts 7 _ (unknown-seven text _ _ _) refl
      ∙ ap (cond (is_fault firsts) 7) (unknown-seven text _ _ _))

  -- what names break, then the pairing
  then-paired : (a u w p : Bool) (f : Option Fault) → Named f → number_in f ≡ cond a 6 (cond u 7 (cond w 7 0)) → cond (is_fault f) (number_in f) (cond p 11 0) ≡ early a u w p
  then-paired true u w p f n e = rw (n, e)
  then-paired false true w p f n e = rw (n, e)
  then-paired false false true p f n e = rw (n, e)
  then-paired false false false p f n e = rw (n, e)

  name-named : Named (name_fault text s it)
  unfolding name_fault declared_before
  name-named = named-or _ _ (named-if _ 6 _ (λ z. cc)) (named-or _ _ (unknown-named text _ _ _) (unknown-named text _ _ _))

  early-named : Named (early_fault text s it)
  unfolding early_fault
  early-named = named-or _ _ name-named (named-if _ 11 _ (λ z. cc))

  early-is : number_in (early_fault text s it) ≡ early declared (is_fault firsts) (is_fault seconds) unpaired
  unfolding early_fault
  early-is =
      or-number (name_fault text s it) _
      ∙ ap (λ (n : ℕ). cond (is_fault (name_fault text s it)) (number_in (name_fault text s it)) n) (if-number unpaired 11 _)
      ∙ then-paired declared (is_fault firsts) (is_fault seconds) unpaired (name_fault text s it) name-named names_are

  judged-is : number_in (judge_variable text s it).fault ≡ cond (is_fault (early_fault text s it)) (number_in (early_fault text s it)) (late_number text s it)
  unfolding judge_variable added_variable with_variables
  judged-is =
      broken-number s (early_fault text s it) (added_variable text s it)
      ∙ ap (λ (n : ℕ). cond (is_fault (early_fault text s it)) (number_in (early_fault text s it)) n) (of-number (late_number text s it) it.variable.place)

  variable-number : number_in (judge_variable text s it).fault ≡ first_of_rules (variable_rules text s it)
  unfolding late_number variable_fault own_fault variable_rules
  variable-number =
      let rs = s.registers in
      let vs = variables_with text s it in
      let v = count_of s.variables in
      judged-is
      ∙ rw (early-named, early-is)
      (variable-order declared (is_fault firsts) (is_fault seconds) unpaired (part_maps rs 0 (variable_part_of vs 0 v) && part_maps rs 1 (variable_part_of vs 1 v)) (type_fits vs v)
      (volatile_fits vs v) (bad_behaviours it.variable.rest.behaviours (list_of text s it 0) (list_of text s it 1)) (mapped_before vs 0 v || mapped_before vs 1 v)
      (trigger_shared vs 0 v || trigger_shared vs 1 v))

  variable-named : Named (judge_variable text s it).fault
  unfolding judge_variable added_variable with_variables
  variable-named = broken-named s _ (added_variable text s it) early-named (of-named _ _)

  pub variable-lowest : NamesRule (judge_variable text s it).fault (first_of_rules (variable_rules text s it))
  variable-lowest = names-rule _ variable-number variable-named
