-- What the test of refusal 22 says of an operation in hand, and that each step of an operation passes it.
-- Assumes nothing.
use Prim.Native.Nat.{ℕ, suc, ◌^◌, ◌<◌}
use mathlib.Core.Path.{◌≡◌, refl, sym, ap, ◌∙◌}
use mathlib.Core.Bool.{Bool, true, false, cond, ◌&&◌, ◌||◌}
use lib.Dec.{eqb}
use lib.ListN.{take}
use borrow.Author.Tests.{eqb-true, eq-eqb, ltb-true, lt-ltb}
use Rattle.bits.specs.Bits.{bit}
use Rattle.tables.specs.declared.Part.{Part}
use Rattle.tables.specs.declared.Part.TheVariants.{Read as reading, Write as writing}
use Rattle.tables.specs.View.{Tables, variable_count, variable_has, size, home_of, registers_of, is_among}
use Rattle.station.specs.Calls.{Idle, Reading, Writing, is_underway, is_read, is_gathered, gathered_bit, is_allowed, gather, register_taken, steps_of}
use Rattle.bits.proofs.BitLaws.{bit-number, number_lt, number_same, number-zero}
use Rattle.station.proofs.Cases.{true-and, is_among-take}
use Rattle.logic.proofs.Tests.{both}

module _ (t : Tables) where
  pub underway : (part : Part) (v step : ℕ) → is_underway t part v step ≡ true
      → (v < variable_count t) × (variable_has t part v ≡ true) × (step < steps_of t part v)
  unfolding is_underway
  underway part v step e =
      let one = both _ _ e in
      let two = both _ _ one.1 in
      (ltb-true _ _ one.0, two.0, ltb-true _ _ two.1)

  pub is_underway_lem : (part : Part) (v step : ℕ) → v < variable_count t → variable_has t part v ≡ true → step < steps_of t part v → is_underway t part v step ≡ true
  unfolding is_underway
  is_underway_lem part v step hv has hs = true-and (lt-ltb _ _ hv) (true-and has (lt-ltb _ _ hs))

  pub reading-allowed : (v step g : ℕ) → is_allowed t (Reading v step g) ≡ true
      → (v < variable_count t) × (variable_has t reading v ≡ true) × (step < steps_of t reading v) × (is_gathered t v step g ≡ true)
  unfolding is_allowed
  reading-allowed v step g e =
      let parts = both (is_underway t reading v step) _ e in
      let (hv, has, hs) = underway reading v step parts.0 in
      (hv, has, hs, parts.1)

  pub writing-allowed : (v step x : ℕ) → is_allowed t (Writing v step x) ≡ true
      → (v < variable_count t) × (variable_has t writing v ≡ true) × (step < steps_of t writing v) × (x < 2 ^ size t writing v)
  unfolding is_allowed
  writing-allowed v step x e =
      let parts = both (is_underway t writing v step) _ e in
      let (hv, has, hs) = underway writing v step parts.0 in
      (hv, has, hs, ltb-true _ _ parts.1)

  pub allow-reading : (v step g : ℕ) → is_underway t reading v step ≡ true → is_gathered t v step g ≡ true → is_allowed t (Reading v step g) ≡ true
  unfolding is_allowed
  allow-reading v step g e i = true-and e i

  pub allow-writing : (v step x : ℕ) → is_underway t writing v step ≡ true → x < 2 ^ size t writing v → is_allowed t (Writing v step x) ≡ true
  unfolding is_allowed
  allow-writing v step x e l = true-and e (lt-ltb _ _ l)

  -- nothing is gathered at first; and what one register more gives is gathered
  pub gathered_none : (v : ℕ) → is_gathered t v 0 0 ≡ true
  unfolding is_gathered is_read
  gathered_none v = eq-eqb _ _ (number-zero (size t reading v))

  gathered-is : (v step g j : ℕ) → is_gathered t v step g ≡ true → j < size t reading v → bit j g ≡ (is_read t v step j && bit j g)
  unfolding is_gathered
  gathered-is v step g j e hj =
      sym (ap (bit j) (eqb-true _ _ e)) ∙ bit-number (size t reading v) (λ j. is_read t v step j && bit j g) j hj

  pub gathered-more : (v step g byte : ℕ) → step < steps_of t reading v → is_gathered t v step g ≡ true
      → is_gathered t v (suc step) (gather t v g (register_taken t reading v step) byte) ≡ true
  unfolding is_gathered is_read gather gathered_bit
  gathered-more v step g byte hs e =
      eq-eqb _ _ (number_same (size t reading v) _ _ (λ j hj. ap (λ (b : Bool). is_read t v (suc step) j && b) (bit-number (size t reading v) _ j hj) ∙ one j hj))
    where
      r : ℕ
      r = register_taken t reading v step

      one : (j : ℕ) → j < size t reading v → (is_read t v (suc step) j && gathered_bit t v g r byte j) ≡ gathered_bit t v g r byte j
      one j hj =
          ap (λ (b : Bool). b && gathered_bit t v g r byte j) (is_among-take (registers_of t reading v) step (home_of t reading v j) hs)
          ∙ pick (is_among (home_of t reading v j) (take step (registers_of t reading v))) (eqb (home_of t reading v j) r) _ (bit j g) (gathered-is v step g j e hj)
        where
          pick : (was here x y : Bool) → y ≡ (was && y) → ((was || here) && cond here x y) ≡ cond here x y
          pick true here x y h = refl
          pick false true x y h = refl
          pick false false x y h = sym h

  pub allow-idle : is_allowed t Idle ≡ true
  unfolding is_allowed
  allow-idle = refl

  pub gather-lt : (v g r byte : ℕ) → gather t v g r byte < 2 ^ size t reading v
  unfolding gather
  gather-lt v g r byte = number_lt (size t reading v) _
