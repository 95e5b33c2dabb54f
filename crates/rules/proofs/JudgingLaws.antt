-- The judging of a declaration: a first fault stays, what is broken before there is an entry stops it, and else the
-- entry says what comes of it. Assumes nothing.
use Prim.Native.Nat.{ℕ}
use mathlib.Core.Path.{◌≡◌, refl, sym, ap, ◌∙◌}
use mathlib.Core.Bool.{Bool, true, false}
use mathlib.Core.List.{List}
use Rattle.syntax.specs.declared.register.Register.{Register}
use Rattle.syntax.specs.Parameter.{ParameterRead}
use Rattle.tables.specs.Tables.{count_of}
use Rattle.tables.specs.Rules.{parameter_fault, register_fault}
use Rattle.rules.specs.declared.fault.Fault.{Fault}
use Rattle.rules.specs.declared.declared.Judging.{Judging}
use Rattle.rules.specs.Fault.{is_fault, fault_of}
use Rattle.std.specs.Prelude.{Option, None}
use Rattle.rules.specs.State.{State, state_of, unless_stopped, unless_broken, stopped, with_parameters, with_registers}
use Rattle.rules.specs.Words.{appended}
use Rattle.rules.specs.Parameter.{parameter_entry, added_parameter}
use Rattle.rules.specs.Register.{register_entry, added_register}
use Rattle.rules.proofs.FaultLaws.{is-none, not-none}

-- over what the calls of the code answered
module _ (j : Judging) (ps rs vs : List ℕ) where
  abbrev here : State
  here = state_of j ps rs vs

  -- the same device, with another fault
  abbrev pub with_fault : Option Fault → Judging
  with_fault fault = record { place = j.place; extent = j.extent; fault = fault }

  module _ {stops : Bool} (e : stops ≡ is_fault j.fault) where
    pub judged-stopped : (next : State) → stops ≡ true → here ≡ unless_stopped here next
    unfolding unless_stopped state_of
    judged-stopped next h = rw (← e, h)

    module _ (on : stops ≡ false) {before known : Option Fault} {broken : Bool} (f : known ≡ before) (g : broken ≡ is_fault known) (entered : State) where
      pub judged-broken : broken ≡ true → state_of (with_fault known) ps rs vs ≡ unless_stopped here (unless_broken here before entered)
      unfolding unless_stopped unless_broken stopped state_of
      judged-broken h = rw (← f, ← e, on, ← g, h)

      pub judged-on : {t : State} → broken ≡ false → t ≡ entered → t ≡ unless_stopped here (unless_broken here before entered)
      unfolding unless_stopped unless_broken state_of
      judged-on h m = rw (m, ← f, ← e, on, ← g, h)

  -- the state with the entry
  pub parameter-entered : (d : ParameterRead) {fault : Option Fault} {t : List ℕ} {count number : ℕ} → count ≡ count_of ps → t ≡ appended 36 ps (parameter_entry d)
      → number ≡ parameter_fault t count → fault ≡ fault_of number d.parameter.place → state_of (with_fault fault) t rs vs ≡ added_parameter here d
  unfolding added_parameter with_parameters state_of
  parameter-entered d c t n m = rw (m, n, t, c)

  pub register-entered : (text : List ℕ) (d : Register) {fault : Option Fault} {t : List ℕ} {count number : ℕ} → count ≡ count_of rs
      → t ≡ appended 15 rs (register_entry text ps d) → number ≡ register_fault ps t count → fault ≡ fault_of number d.place
      → state_of (with_fault fault) ps t vs ≡ added_register text here d
  unfolding added_register with_registers state_of
  register-entered text d c t n m = rw (m, n, t, c)

-- a state without a fault was not stopped before
pub unstopped : (s next : State) → (unless_stopped s next).fault ≡ None → (s.fault ≡ None) × (unless_stopped s next ≡ next)
unfolding unless_stopped
unstopped s next h = go (is_fault s.fault) refl
  where
    go : (b : Bool) → is_fault s.fault ≡ b → (s.fault ≡ None) × (unless_stopped s next ≡ next)
    go true e = absurd (not-none s.fault e (sym (rw e) ∙ h))
    go false e = (is-none s.fault e, rw e)

-- nor was anything broken before its entry
pub unbroken : (s : State) (before : Option Fault) (entered : State) → (unless_broken s before entered).fault ≡ None
    → (before ≡ None) × ((unless_broken s before entered ≡ entered) × (entered.fault ≡ None))
unfolding unless_broken stopped
unbroken s before entered h = go (is_fault before) refl
  where
    go : (b : Bool) → is_fault before ≡ b → (before ≡ None) × ((unless_broken s before entered ≡ entered) × (entered.fault ≡ None))
    go true e = absurd (not-none before e (sym (rw e) ∙ h))
    go false e = (is-none before e, (rw e, sym (rw e) ∙ h))

-- both together: what was judged without a fault is the state with the entry
pub judged-kept : (s : State) (before : Option Fault) (entered : State) → (unless_stopped s (unless_broken s before entered)).fault ≡ None
    → (before ≡ None) × (unless_stopped s (unless_broken s before entered) ≡ entered)
judged-kept s before entered h =
    let first = unstopped s (unless_broken s before entered) h in
    let second = unbroken s before entered (ap (λ (t : State). t.fault) (sym first.1) ∙ h) in
    (second.0, first.1 ∙ second.1.0)
