-- Bits above a register's width count as 0 (`HighBitsAreZero`). An opening cuts what it is lent. A number confirmed and
-- a number kept are looked at bit by bit, and only below the width: fixed bits, dots and a variable's bits lie there.
-- Assumes nothing.
use Prim.Native.Nat.{ℕ, suc, ◌<◌}
use native.Mathlib.Omega.{arith}
use mathlib.Core.Path.{◌≡◌, refl, sym, ap, ap₂, subst, ◌∙◌}
use mathlib.Core.Bool.{Bool, true, false, cond, not, ◌&&◌}
use mathlib.Core.List.{List, [], ◌∷◌, ◌++◌}
use lib.Dec.{eqb, leb, ltb}
use lib.ListN.{length, get_or, set, drop, length-set, get_or-append, get_or-eq_default}
use lib.Seq.{get_or-set_same, get_or-set_other}
use borrow.Author.Tests.{eqb-true, eqb-false, ltb-true, ltb-false, not-false}
use Rattle.bits.specs.Bits.{bit}
use Rattle.bits.specs.Values.{encode}
use Rattle.bits.proofs.BitLaws.{number_lt, number_same}
use Rattle.bits.proofs.MaskLaws.{bit_and_lem, same_bits}
use Rattle.tables.specs.declared.Part.TheVariants.{Read as reading, Write as writing}
use Rattle.tables.specs.View.{Tables, sound, Consistent, register_count, register_width, variable_count, is_dot, is_one, is_fixed, obeys, size, home_of, spot_of}
use Rattle.tables.specs.Tables.{register_part_of}
use Rattle.tables.proofs.Consistent.{consistent}
use Rattle.station.specs.declared.Access.{Access}
use Rattle.station.specs.declared.Operation.{Operation}
use Rattle.station.specs.Calls.{Idle, Reading, Writing, Offered, State, Outcome, Test, cut_to, numbers_in, kept_of, keeping, register_taken, steps_of, is_last, other_bit, settings_bit, settings_byte, written_byte, access_at, write_access, gathered_bit, gather, read_on, write_on, refused, contradicted, confirmed, abandoned, is_long, is_allowed, unless, checked, opening_tests, opening, confirm}
use Rattle.station.specs.Answers.{register_read}
use Rattle.station.specs.Kept.{NotRefused}
use Rattle.station.specs.Widths.{Alike, with_record, AlikeOutcomes, HighBitsAreZero}
use Rattle.station.proofs.Cuts.{numbers-long, numbers-at, cut-bit}
use Rattle.station.proofs.Registers.{register-inside}
use Rattle.station.proofs.Refusals.{NoneHolds, some≢none, unless-cases}
use Rattle.station.proofs.Underway.{reading-allowed}

-- ── lent ──

module _ (t : Tables) (s : State) (power : List ℕ) (r : ℕ) (inside : r < register_count t) where
  opened-cut : get_or (numbers_in t power (register_count t) ++ drop (register_count t) s.kept) r 0 ≡ cut_to t r (get_or power r 0)
  opened-cut =
      get_or-append (numbers_in t power (register_count t)) (drop (register_count t) s.kept) 0 r (omega (arith, numbers-long t power (register_count t)))
      ∙ numbers-at t power (register_count t) r inside

  lent_cut : NotRefused (opening sound t power s) → kept_of (opening sound t power s).state r ≡ cut_to t r (get_or power r 0)
  lent_cut =
      unless-cases (λ (o : Outcome). NotRefused o → kept_of o.state r ≡ cut_to t r (get_or power r 0)) (opening_tests sound t power s) s _
      (λ n refused. absurd (some≢none n refused))
      (λ passed kept. opened-cut)

-- ── confirmed ──

module _ (t : Tables) (rules : Consistent t) where
  bit_cut : (v g r x j : ℕ) → v < variable_count t → j < size t reading v → gathered_bit t v g r (cut_to t r x) j ≡ gathered_bit t v g r x j
  unfolding gathered_bit
  bit_cut v g r x j hv hj = go (eqb (home_of t reading v j) r) refl
    where
      go : (b : Bool) → eqb (home_of t reading v j) r ≡ b
          → cond b (bit (spot_of t reading v j) (cut_to t r x)) (bit j g) ≡ cond b (bit (spot_of t reading v j) x) (bit j g)
      go true e =
          let home : home_of t reading v j ≡ r = eqb-true _ _ e in
          cut-bit t r x (spot_of t reading v j) (rw (sym home) (rules.in-width reading v j hv hj))
      go false e = refl

  gather-cut : (v g r x : ℕ) → v < variable_count t → gather t v g r (cut_to t r x) ≡ gather t v g r x
  unfolding gather
  gather-cut v g r x hv = number_same (size t reading v) _ _ (λ j hj. bit_cut v g r x j hv hj)

  -- a fixed bit is below the width
  fixed-cut : (r x b : ℕ) → r < register_count t → (bit b (cut_to t r x) && is_fixed t reading r b) ≡ (bit b x && is_fixed t reading r b)
  fixed-cut r x b inside = go (is_fixed t reading r b) refl
    where
      none : (a c : Bool) → (a && false) ≡ (c && false)
      none true true = refl
      none true false = refl
      none false true = refl
      none false false = refl

      go : (f : Bool) → is_fixed t reading r b ≡ f → (bit b (cut_to t r x) && f) ≡ (bit b x && f)
      go true e = ap (λ (a : Bool). a && true) (cut-bit t r x b (rules.fixed-bit reading r b inside e).0)
      go false e = none (bit b (cut_to t r x)) (bit b x)

  obeys-cut : (r x : ℕ) → r < register_count t → obeys t reading r (cut_to t r x) ≡ obeys t reading r x
  unfolding obeys is_fixed
  obeys-cut r x inside =
      let mask = register_part_of t.registers 0 r in
      ap (λ (n : ℕ). eqb n mask.ones)
      (same_bits _ _ (λ b. bit_and_lem b (cut_to t r x) mask.fixed ∙ fixed-cut r x b inside ∙ sym (bit_and_lem b x mask.fixed)))

  read-cut : (s : State) (v step g x : ℕ) → v < variable_count t → step < steps_of t reading v
      → confirmed t s (Reading v step g) x ≡ confirmed t s (Reading v step g) (cut_to t (register_taken t reading v step) x)
  read-cut s v step g x hv hs =
      let r = register_taken t reading v step in
      ap₂ (λ (ok : Bool) (n : ℕ). cond ok (read_on (is_last t reading v (suc step)) t s v (suc step) n) (contradicted r s))
      (sym (obeys-cut r x (register-inside t rules reading v step hv hs))) (sym (gather-cut v g r x hv))

-- where no test holds, the tables are sound and allow the operation
confirmed-cut : (t : Tables) (s : State) (op : Operation) (x : ℕ) → sound t ≡ true → is_allowed t op ≡ true
    → confirmed t s op x ≡ confirmed t s op (cut_to t (register_read t op) x)
confirmed-cut t s Idle x ok allowed = refl
confirmed-cut t s (Reading v step g) x ok allowed =
    let a = reading-allowed t v step g allowed in
    read-cut t (consistent t ok) s v step g x a.0 a.2
confirmed-cut t s (Writing v step y) x ok allowed = refl

same-unless : (tests : List Test) (s : State) (o p : Outcome) → (NoneHolds tests → o ≡ p) → unless tests s o ≡ unless tests s p
unfolding unless
same-unless [] s o p same = same tt
same-unless (test ∷ tests) s o p same = go test.0 refl (λ first. same-unless tests s o p (λ rest. same (first, rest)))
  where
    go : (b : Bool) → test.0 ≡ b → (test.0 ≡ false → unless tests s o ≡ unless tests s p)
        → cond b (refused test.1 s) (unless tests s o) ≡ cond b (refused test.1 s) (unless tests s p)
    go true e rest = refl
    go false e rest = rest e

confirm-cut : (t : Tables) (s : State) (x : ℕ) → confirm sound t s x ≡ confirm sound t s (cut_to t (register_read t s.operation) x)
confirm-cut t s x =
    same-unless (checked sound t s []) s _ _
    (λ passed. confirmed-cut t s s.operation x (not-false _ passed.0) (not-false _ passed.1.1.0))

-- ── kept ──

set-alike : (t : Tables) (kept other : List ℕ) (r x : ℕ) → Alike t kept other → Alike t (set kept r x) (set other r x)
set-alike t kept other r x alike =
    record { long = length-set kept r x ∙ alike.long ∙ sym (length-set other r x); below = λ q. go q (eqb q r) refl }
  where
    past : (l : List ℕ) → length l ≡ length kept → ltb r (length kept) ≡ false → get_or (set l r x) r 0 ≡ 0
    past l long h = get_or-eq_default (set l r x) 0 (omega (arith, length-set l r x, long, ltb-false r (length kept) h))

    here : (room : Bool) → ltb r (length kept) ≡ room → get_or (set kept r x) r 0 ≡ get_or (set other r x) r 0
    here true h =
        get_or-set_same kept r x 0 (ltb-true r (length kept) h)
        ∙ sym (get_or-set_same other r x 0 (omega (arith, alike.long, ltb-true r (length kept) h)))
    here false h = past kept refl h ∙ sym (past other (sym alike.long) h)

    go : (q : ℕ) (b : Bool) → eqb q r ≡ b → cut_to t q (get_or (set kept r x) q 0) ≡ cut_to t q (get_or (set other r x) q 0)
    go q true e =
        ap (cut_to t q) (ap (λ (i : ℕ). get_or (set kept r x) i 0) (eqb-true q r e) ∙ here (ltb r (length kept)) refl
        ∙ ap (λ (i : ℕ). get_or (set other r x) i 0) (sym (eqb-true q r e)))
    go q false e =
        ap (cut_to t q) (get_or-set_other kept r q x 0 (eqb-false q r e)) ∙ alike.below q
        ∙ ap (cut_to t q) (sym (get_or-set_other other r q x 0 (eqb-false q r e)))

-- a dot takes a bit of the record, below the width
other_cut : (t : Tables) (kept other : List ℕ) (r b : ℕ) → Alike t kept other → b < register_width t r
    → other_bit t (λ q. get_or kept q 0) r b ≡ other_bit t (λ q. get_or other q 0) r b
unfolding other_bit
other_cut t kept other r b alike l =
    ap (λ (x : Bool). cond (is_dot t writing r b) x (is_one t writing r b))
    (sym (cut-bit t r (get_or kept r 0) b l) ∙ ap (bit b) (alike.below r) ∙ cut-bit t r (get_or other r 0) b l)

access-alike : (t : Tables) (s : State) (other : List ℕ) → Alike t s.kept other → (v step x : ℕ)
    → write_access t s v step x ≡ write_access t (with_record s other) v step x
unfolding written_byte settings_byte
access-alike t s other alike v step x =
    let r = register_taken t writing v step in
    ap (access_at t writing r)
    (number_same (register_width t r) _ _ (λ b l. ap (settings_bit t ((v, x) ∷ []) r b) (other_cut t s.kept other r b alike l)))

module _ (t : Tables) (s : State) (other : List ℕ) (alike : Alike t s.kept other) where
  -- the tests look at nothing of a record but its length
  checked-alike : (own : List Test) → checked sound t s own ≡ checked sound t (with_record s other) own
  unfolding is_long
  checked-alike own =
      ap (λ (n : ℕ). (not (sound t), 20) ∷ (not (leb (register_count t) n && leb (variable_count t) (length s.marks)), 21) ∷ (not (is_allowed t s.operation), 22) ∷ own)
      alike.long

  refused-alike : (n : ℕ) → AlikeOutcomes t (refused n s) (refused n (with_record s other))
  refused-alike n = record { answers = refl; marks = refl; operations = refl; records = alike }

  unless-alike : (tests : List Test) (o p : Outcome) → AlikeOutcomes t o p → AlikeOutcomes t (unless tests s o) (unless tests (with_record s other) p)
  unfolding unless
  unless-alike [] o p same = same
  unless-alike (test ∷ tests) o p same = go test.0 (unless-alike tests o p same)
    where
      go : (b : Bool) → AlikeOutcomes t (unless tests s o) (unless tests (with_record s other) p)
          → AlikeOutcomes t (cond b (refused test.1 s) (unless tests s o)) (cond b (refused test.1 (with_record s other)) (unless tests (with_record s other) p))
      go true rest = refused-alike test.1
      go false rest = rest

  -- so a call comes to the like where what follows its tests does
  call_alike : (own : List Test) (o p : Outcome) → AlikeOutcomes t o p
      → AlikeOutcomes t (unless (checked sound t s own) s o) (unless (checked sound t (with_record s other) own) (with_record s other) p)
  call_alike own o p same =
      subst (λ (tests : List Test). AlikeOutcomes t (unless (checked sound t s own) s o) (unless tests (with_record s other) p))
      (checked-alike own) (unless-alike (checked sound t s own) o p same)

  read_on-alike : (last : Bool) (v step g : ℕ) → AlikeOutcomes t (read_on last t s v step g) (read_on last t (with_record s other) v step g)
  read_on-alike true v step g = record { answers = refl; marks = refl; operations = refl; records = alike }
  read_on-alike false v step g = record { answers = refl; marks = refl; operations = refl; records = alike }

  or-stops-alike : (obeyed : Bool) (o p : Outcome) (r : ℕ) → AlikeOutcomes t o p
      → AlikeOutcomes t (cond obeyed o (contradicted r s)) (cond obeyed p (contradicted r (with_record s other)))
  or-stops-alike true o p r same = same
  or-stops-alike false o p r same = record { answers = refl; marks = refl; operations = refl; records = alike }

  write_on-alike : (last : Bool) (v step x : ℕ) → AlikeOutcomes t (write_on last t s v step x) (write_on last t (with_record s other) v step x)
  write_on-alike true v step x = record { answers = refl; marks = refl; operations = refl; records = alike }
  write_on-alike false v step x =
      record { answers = ap Offered (access-alike t s other alike v step x); marks = refl; operations = refl; records = alike }

  abandoned-alike : (op : Operation) → AlikeOutcomes t (abandoned s op) (abandoned (with_record s other) op)
  abandoned-alike Idle = refused-alike 24
  abandoned-alike (Reading v step g) = record { answers = refl; marks = refl; operations = refl; records = alike }
  abandoned-alike (Writing v step x) = record { answers = refl; marks = refl; operations = refl; records = alike }

-- a confirmed write keeps the same number in both records
confirmed-alike : (t : Tables) (s : State) (other : List ℕ) → Alike t s.kept other → (op : Operation) (number : ℕ)
    → AlikeOutcomes t (confirmed t s op number) (confirmed t (with_record s other) op number)
confirmed-alike t s other alike Idle number = refused-alike t s other alike 24
confirmed-alike t s other alike (Reading v step g) number =
    let r = register_taken t reading v step in
    or-stops-alike t s other alike (obeys t reading r number) _ _ r
    (read_on-alike t s other alike (is_last t reading v (suc step)) v (suc step) (gather t v g r number))
confirmed-alike t s other alike (Writing v step x) number =
    let r = register_taken t writing v step in
    let byte = (write_access t s v step x).byte in
    let last = is_last t writing v (suc step) in
    subst (λ (b : ℕ). AlikeOutcomes t (write_on last t (keeping s r byte) v (suc step) x) (write_on last t (keeping (with_record s other) r b) v (suc step) x))
    (ap (λ (a : Access). a.byte) (access-alike t s other alike v step x))
    (write_on-alike t (keeping s r byte) (set other r byte) (set-alike t s.kept other r byte alike) last v (suc step) x)

-- ── all of it ──

pub high-bits-are-zero : (t : Tables) (s : State) → HighBitsAreZero t s
unfolding written_byte settings_byte
high-bits-are-zero t s =
    record {
      lent = lent_cut t s;
      confirmed = confirm-cut t s;
      kept_read = λ other alike v. call_alike t s other alike _ _ _ (record { answers = refl; marks = refl; operations = refl; records = alike });
      kept-write = λ other alike v z.
          call_alike t s other alike _ _ _
          (record { answers = ap Offered (access-alike t s other alike v 0 (encode (size t writing v) z)); marks = refl; operations = refl; records = alike });
      kept-confirm = λ other alike number. call_alike t s other alike [] _ _ (confirmed-alike t s other alike s.operation number);
      kept-abandon = λ other alike. call_alike t s other alike [] _ _ (abandoned-alike t s other alike s.operation);
      offered = λ v step x. number_lt (register_width t (register_taken t writing v step)) _;
    }
