-- What each call does to the record and to the marks, by the kind of the operation in hand.
-- Assumes nothing.
use Prim.Native.Nat.{ℕ, suc}
use mathlib.Core.Path.{◌≡◌, refl, sym, subst}
use mathlib.Core.Bool.{Bool, true, false, true≢false, cond}
use mathlib.Core.List.{[]}
use lib.ListN.{set}
use Rattle.tables.specs.declared.Part.TheVariants.{Read as reading, Write as writing}
use Rattle.tables.specs.View.{Tables, obeys}
use Rattle.station.specs.declared.Operation.{Operation}
use Rattle.station.specs.Calls.{Idle, Reading, Writing, State, Outcome, gather, register_taken, is_last, keeping, write_access, read_on, write_on, contradicted, checked, read_tests, write_tests, confirmed, abandoned}
use Rattle.station.specs.Kept.{InHand, NoWrite, NotRefused, SameLists, Keeps}
use Rattle.station.proofs.Refusals.{some≢none, unless-cases}

abbrev untouched : (s : State) → SameLists s s
untouched s = record { record_kept = refl; marks-kept = refl }

module _ (t : Tables) (s : State) where
  -- ── a confirmed read ──

  read_on-keeps : (last : Bool) (v n g : ℕ) → SameLists s (read_on last t s v n g).state
  read_on-keeps true v n g = record { record_kept = refl; marks-kept = refl }
  read_on-keeps false v n g = record { record_kept = refl; marks-kept = refl }

  stop-keeps : (obeyed : Bool) (o : Outcome) (r : ℕ) → SameLists s o.state → SameLists s (cond obeyed o (contradicted r s)).state
  stop-keeps true o r kept = kept
  stop-keeps false o r kept = record { record_kept = refl; marks-kept = refl }

  confirmed-keeps : (op : Operation) (byte : ℕ) → s.operation ≡ op → NoWrite s → SameLists s (confirmed t s op byte).state
  confirmed-keeps Idle byte is no_write = untouched s
  confirmed-keeps (Reading v n g) byte is no_write =
      stop-keeps (obeys t reading (register_taken t reading v n) byte) _ (register_taken t reading v n)
      (read_on-keeps (is_last t reading v (suc n)) v (suc n) (gather t v g (register_taken t reading v n) byte))
  confirmed-keeps (Writing v n x) byte is no_write = absurd (no_write v n (record { bits = x; is = is }))

  -- ── a confirmed write ──

  write_on-keeps : (last : Bool) (at : State) (v n x : ℕ) → (write_on last t at v n x).state.kept ≡ at.kept
  write_on-keeps true at v n x = refl
  write_on-keeps false at v n x = refl

  write_on_clears : (last : Bool) (at : State) (v n x : ℕ) → last ≡ true → (write_on last t at v n x).state.marks ≡ set at.marks v 0
  write_on_clears true at v n x e = refl
  write_on_clears false at v n x e = absurd (true≢false (sym e))

  write_on-leaves : (last : Bool) (at : State) (v n x : ℕ) → last ≡ false → (write_on last t at v n x).state.marks ≡ at.marks
  write_on-leaves true at v n x e = absurd (true≢false e)
  write_on-leaves false at v n x e = refl

  module _ (byte v step : ℕ) (w : InHand s v step) where
    -- the state with the byte recorded
    abbrev recorded : State
    recorded = keeping s (register_taken t writing v step) (write_access t s v step w.bits).byte

    -- what the confirmation comes to, once none of the tests holds
    on-write : (P : Outcome → Type 0) → P (write_on (is_last t writing v (suc step)) t recorded v (suc step) w.bits) → P (confirmed t s s.operation byte)
    on-write P p = subst (λ (op : Operation). P (confirmed t s op byte)) (sym w.is) p

-- ── an abandoned operation ──

module _ (s : State) where
  abandoned-keeps : (op : Operation) → (abandoned s op).state.kept ≡ s.kept
  abandoned-keeps Idle = refl
  abandoned-keeps (Reading v n g) = refl
  abandoned-keeps (Writing v n x) = refl

  read-abandons : (op : Operation) → s.operation ≡ op → NoWrite s → SameLists s (abandoned s op).state
  read-abandons Idle is no_write = untouched s
  read-abandons (Reading v n g) is no_write = record { record_kept = refl; marks-kept = refl }
  read-abandons (Writing v n x) is no_write = absurd (no_write v n (record { bits = x; is = is }))

  abandoned-ends : (op : Operation) → NotRefused (abandoned s op) → (abandoned s op).state.operation ≡ Idle
  abandoned-ends Idle passed = absurd (some≢none 24 passed)
  abandoned-ends (Reading v n g) passed = refl
  abandoned-ends (Writing v n x) passed = refl

pub keeps : (sound : Tables → Bool) (t : Tables) (s : State) → Keeps sound t s
keeps sound t s =
    record {
      read-begun = λ v. unless-cases (λ o. SameLists s o.state) (read_tests sound t s v) s _ (λ n. untouched s) (λ passed. record { record_kept = refl; marks-kept = refl });
      write-begun = λ v z. unless-cases (λ o. SameLists s o.state) (write_tests sound t s v z) s _ (λ n. untouched s) (λ passed. record { record_kept = refl; marks-kept = refl });
      write-confirmed = λ byte v step w.
          let P : Outcome → Type 0 = λ o. NotRefused o → o.state.kept ≡ set s.kept (register_taken t writing v step) (write_access t s v step w.bits).byte in
          unless-cases P (checked sound t s []) s _ (λ n e. absurd (some≢none n e))
          (λ passed. on-write t s byte v step w P (λ e. write_on-keeps t s (is_last t writing v (suc step)) (recorded t s byte v step w) v (suc step) w.bits));
      write-finished = λ byte v step w ok last.
          let P : Outcome → Type 0 = λ o. NotRefused o → o.state.marks ≡ set s.marks v 0 in
          unless-cases P (checked sound t s []) s _ (λ n e. absurd (some≢none n e))
          (λ passed. on-write t s byte v step w P (λ e. write_on_clears t s (is_last t writing v (suc step)) (recorded t s byte v step w) v (suc step) w.bits last)) ok;
      write-goes_on = λ byte v step w more.
          let P : Outcome → Type 0 = λ o. o.state.marks ≡ s.marks in
          unless-cases P (checked sound t s []) s _ (λ n. refl)
          (λ passed. on-write t s byte v step w P (write_on-leaves t s (is_last t writing v (suc step)) (recorded t s byte v step w) v (suc step) w.bits more));
      read-confirmed = λ byte no_write.
          unless-cases (λ o. SameLists s o.state) (checked sound t s []) s _ (λ n. untouched s) (λ passed. confirmed-keeps t s s.operation byte refl no_write);
      write-abandoned = λ v step w.
          let P : Outcome → Type 0 = λ o. NotRefused o → o.state.marks ≡ set s.marks v 1 in
          unless-cases P (checked sound t s []) s _ (λ n e. absurd (some≢none n e))
          (λ passed. subst (λ (op : Operation). P (abandoned s op)) (sym w.is) (λ e. refl));
      no-byte-abandoned = unless-cases (λ o. o.state.kept ≡ s.kept) (checked sound t s []) s _ (λ n. refl) (λ passed. abandoned-keeps s s.operation);
      read-abandoned = λ no_write.
          unless-cases (λ o. SameLists s o.state) (checked sound t s []) s _ (λ n. untouched s) (λ passed. read-abandons s s.operation refl no_write);
      ended = unless-cases (λ o. NotRefused o → o.state.operation ≡ Idle) (checked sound t s []) s _ (λ n e. absurd (some≢none n e)) (λ passed. abandoned-ends s s.operation);
    }
