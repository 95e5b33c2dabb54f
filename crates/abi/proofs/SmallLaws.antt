-- The numbers of every answer fit a word.
-- Assumes nothing.
use Prim.Native.Nat.{ℕ, suc, ◌<◌, ◌^◌}
use mathlib.Core.Path.{◌≡◌, refl}
use mathlib.Core.Bool.{Bool, true, false, ◌&&◌, cond}
use mathlib.Core.List.{List, [], ◌∷◌}
use native.Mathlib.Nat.{lt_trans}
use native.Mathlib.Omega.{arith}
use lib.Dec.{ltb}
use lib.IntN.{ℤ}
use lib.ListN.{get_or}
use mir.Syntax.{w32}
use mir.Val.{Fits}
use borrow.Author.Tests.{eqb-true, ltb-true, not-false}
use Rattle.tables.specs.declared.Part.{Part}
use Rattle.tables.specs.declared.Part.TheVariants.{Read as reading, Write as writing}
use Rattle.tables.specs.View.{Tables, sound, register_count, obeys, variable_count, parameter_of, offset_of}
use Rattle.tables.proofs.Consistent.{consistent}
use Rattle.station.specs.declared.Operation.{Operation}
use Rattle.station.specs.declared.Operation.TheVariants.{Idle, Reading, Writing}
use Rattle.station.specs.Calls.{State, Outcome, Test, refused, unless, is_allowed, is_last, gather, register_taken, keeping, write_access, read_on, write_on, contradicted, steps_of, checked, opening, opening_tests, begin_read, read_tests, begin_write, write_tests, confirmed, confirm, abandoned, abandon}
use Rattle.station.proofs.Distinct.{at-most-8}
use Rattle.station.proofs.Registers.{register-inside}
use Rattle.station.proofs.Refusals.{NoneHolds}
use Rattle.station.proofs.Underway.{reading-allowed, writing-allowed}
use Rattle.abi.specs.Told.{Small}
use Rattle.logic.proofs.Tests.{both}

-- the refusals of these tests do
abbrev pub small_numbers : List Test → Bool
small_numbers [] = true
small_numbers (test ∷ tests) = ltb test.1 (2 ^ 32) && small_numbers tests

pub unless-small : (tests : List Test) (s : State) (o : Outcome) → small_numbers tests ≡ true → (NoneHolds tests → Small o.answer) → Small (unless tests s o).answer
unfolding unless
unless-small [] s o numbers passed = passed tt
unless-small (test ∷ tests) s o numbers passed =
    let parts = both (ltb test.1 (2 ^ 32)) (small_numbers tests) numbers in
    go test.0 refl (ltb-true _ _ parts.0) (λ first. unless-small tests s o parts.1 (λ rest. passed (first, rest)))
  where
    go : (b : Bool) → test.0 ≡ b → test.1 < 2 ^ 32 → (test.0 ≡ false → Small (unless tests s o).answer) → Small (cond b (refused test.1 s) (unless tests s o)).answer
    go true e small rest = small
    go false e small rest = rest e

module _ (t : Tables) (narrow : (i : ℕ) → Fits w32 (get_or t.registers i 0)) where
  pub offer-small : (part : Part) (r : ℕ) → (parameter_of t part r < 2 ^ 32) × (offset_of t part r < 2 ^ 32)
  unfolding parameter_of offset_of
  offer-small part r = ((narrow _).fits, (narrow _).fits)

  pub opening-small : (power : List ℕ) (s : State) → Small (opening sound t power s).answer
  opening-small power s = unless-small (opening_tests sound t power s) s _ refl (λ _. tt)

  pub begin_read-small : (s : State) (v : ℕ) → Small (begin_read sound t s v).answer
  begin_read-small s v = unless-small (read_tests sound t s v) s _ refl (λ _. offer-small reading _)

  pub begin_write-small : (s : State) (v : ℕ) (z : ℤ) → Small (begin_write sound t s v z).answer
  begin_write-small s v z = unless-small (write_tests sound t s v z) s _ refl (λ _. offer-small writing _)

  -- a part has at most 8 registers
  last-small : (part : Part) (v n : ℕ) → sound t ≡ true → v < variable_count t → is_last t part v n ≡ true → n < 2 ^ 32
  last-small part v n ok hv last = omega (arith, at-most-8 t part v ok hv, eqb-true n (steps_of t part v) last)

  -- an operation that goes on, or is done at the last with n accesses
  on-small : (part : Part) (v n : ℕ) (on : Bool → Outcome) → sound t ≡ true → v < variable_count t
      → (n < 2 ^ 32 → Small (on true).answer) → Small (on false).answer → Small (on (is_last t part v n)).answer
  on-small part v n on ok hv done offered = go (is_last t part v n) refl
    where
      go : (last : Bool) → is_last t part v n ≡ last → Small (on last).answer
      go true e = done (last-small part v n ok hv e)
      go false e = offered

  -- a register's index is below 64
  register-small : (part : Part) (v step : ℕ) → sound t ≡ true → v < variable_count t → step < steps_of t part v → register_taken t part v step < 2 ^ 32
  unfolding register_count
  register-small part v step ok hv hs = lt_trans (register-inside t (consistent t ok) part v step hv hs) (narrow 0).fits

  or-stops : (obeyed : Bool) (s : State) (r : ℕ) (o : Outcome) → r < 2 ^ 32 → Small o.answer → Small (cond obeyed o (contradicted r s)).answer
  or-stops true s r o small goes = goes
  or-stops false s r o small goes = (omega arith, small)

  confirmed-small : (s : State) (op : Operation) (byte : ℕ) → sound t ≡ true → is_allowed t op ≡ true → Small (confirmed t s op byte).answer
  confirmed-small s Idle byte ok allowed = omega arith
  confirmed-small s (Reading v step g) byte ok allowed =
      let a = reading-allowed t v step g allowed in
      or-stops (obeys t reading (register_taken t reading v step) byte) s (register_taken t reading v step) _ (register-small reading v step ok a.0 a.2)
      (on-small reading v (suc step) (λ last. read_on last t s v (suc step) (gather t v g (register_taken t reading v step) byte)) ok
      a.0 (λ few. few) (offer-small reading _))
  confirmed-small s (Writing v step x) byte ok allowed =
      on-small writing v (suc step) (λ last. write_on last t (keeping s (register_taken t writing v step) (write_access t s v step x).byte) v (suc step) x) ok
      (writing-allowed t v step x allowed).0 (λ few. few) (offer-small writing _)

  pub confirm-small : (s : State) (byte : ℕ) → Small (confirm sound t s byte).answer
  confirm-small s byte =
      unless-small (checked sound t s []) s _ refl
      (λ passed. confirmed-small s s.operation byte (not-false _ passed.0) (not-false _ passed.1.1.0))

  abandoned-small : (s : State) (op : Operation) → Small (abandoned s op).answer
  abandoned-small s Idle = omega arith
  abandoned-small s (Reading v step g) = tt
  abandoned-small s (Writing v step x) = tt

  pub abandon-small : (s : State) → Small (abandon sound t s).answer
  abandon-small s = unless-small (checked sound t s []) s _ refl (λ _. abandoned-small s s.operation)
