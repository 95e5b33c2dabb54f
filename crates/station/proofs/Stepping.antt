-- Demand 2's step order: a begin and its confirmations are answered by the offers of the plan, in its order, and then
-- by done. Assumes nothing.
use Prim.Native.Nat.{ℕ, zero, suc, ◌+◌, ◌≤◌, ◌<◌, ◌^◌}
use mathlib.Core.Path.{◌≡◌, refl, sym, ap, ap₂, ◌∙◌, subst}
use mathlib.Core.Logic.{◌⊎◌, inl, inr}
use mathlib.Core.Bool.{Bool, true, false, cond, not}
use mathlib.Core.List.{List, [], ◌∷◌, ◌++◌, map}
use mathlib.Core.Option.{none}
use native.Mathlib.Nat.{zero-add, le_of_suc-le-suc, not-suc-le-zero}
use native.Mathlib.Omega.{arith}
use lib.Arith.{lt_of_le-ne}
use lib.Dec.{eqb, leb}
use lib.IntN.{ℤ}
use lib.ListN.{length, get_or, set, take, drop, length-set, length-map, length-append}
use lib.Seq.{drop-cons, drop-length, take-length, take_all, get_or-set_other}
use borrow.Author.Tests.{eqb-true, eqb-false, eq-eqb, ne_eqb, ltb-true, leb-true, le-leb, not-false}
use Rattle.tables.specs.declared.Part.TheVariants.{Read as reading, Write as writing}
use Rattle.tables.specs.View.{Tables, sound, Among, register_count, register_width, is_dot, is_one, obeys, variable_count, variable_has, kind_of, size, home_of, spot_of, registers_of}
use Rattle.tables.proofs.Consistent.{consistent}
use Rattle.bits.specs.Bits.{bit, number_of}
use Rattle.bits.specs.Values.{encode, decode}
use Rattle.station.specs.declared.Access.{Access}
use Rattle.station.specs.declared.Operation.{Operation}
use Rattle.station.specs.declared.Answer.{Answer}
use Rattle.station.specs.Calls.{Idle, Reading, Writing, Offered, Done, Refused, Stopped, State, Outcome, kept_of, settings_bit, settings_byte, other_bit, written_byte, gather, register_taken, steps_of, access_at, read_access, write_access, unless, is_long, is_allowed, is_gathered, is_last, read_on, write_on, keeping, checked, read_tests, write_tests, begin_read, begin_write, confirm, confirmed}
use Rattle.station.specs.Answers.{refusal_of}
use Rattle.station.specs.Steps.{Once, read_plan, write_plan, brought_for, value_read, Obeyed, Ignored, answers_of, offers_then_done, GoesByPlan, StopsAtMisfit}
use Rattle.bits.proofs.BitLaws.{bits-equal, bit-number, number_lt}
use Rattle.bits.proofs.ValueLaws.{encode-lt, decode-encode}
use Rattle.bits.proofs.RangeLaws.{neither}
use Rattle.station.proofs.Cases.{among-take, get_or-among}
use Rattle.station.proofs.ByteLaws.{gather-here, gather-there}
use Rattle.station.proofs.Registers.{mentioned, some-step}
use Rattle.station.proofs.Distinct.{each-once, once-apart, at-most-8}
use Rattle.station.proofs.Underway.{is_underway_lem, allow-reading, allow-writing, gathered_none, gathered-more, gather-lt}
use Rattle.station.proofs.Refusals.{some≢none, unless-cases}
use Rattle.logic.proofs.Tests.{either, both}

-- ── lists ──

-- what is left of a plan: the offer of its next register, and then the others
next-offer : (access : ℕ → Access) (rs : List ℕ) (n m : ℕ) (end : List Answer) → n < length rs
    → take (suc m) (map Offered (map access (drop n rs)) ++ end) ≡ Offered (access (get_or rs n 0)) ∷ take m (map Offered (map access (drop (suc n) rs)) ++ end)
next-offer access rs n m end h = ap (λ (l : List ℕ). take (suc m) (map Offered (map access l) ++ end)) (drop-cons rs n 0 h)

all-offered : (access : ℕ → Access) (rs : List ℕ) (n : ℕ) (end : List Answer) → n ≡ length rs → (map Offered (map access (drop n rs)) ++ end) ≡ end
all-offered access rs n end e = ap (λ (l : List ℕ). map Offered (map access l) ++ end) (ap (λ (i : ℕ). drop i rs) e ∙ drop-length rs)

-- the byte brought for a register is that of its step
brought-at : (rs bytes : List ℕ) (i : ℕ) → Once rs → length bytes ≤ length rs → i < length bytes → get_or bytes i 0 ≡ brought_for rs bytes (get_or rs i 0)
brought-at [] [] i once few h = absurd (not-suc-le-zero h)
brought-at [] (byte ∷ bytes) i once few h = absurd (not-suc-le-zero few)
brought-at (s ∷ rs) [] i once few h = absurd (not-suc-le-zero h)
brought-at (s ∷ rs) (byte ∷ bytes) zero once few h = rw (eq-eqb s s refl)
brought-at (s ∷ rs) (byte ∷ bytes) (suc i) once few h =
    let inside : i < length rs = omega arith in
    let apart : eqb (get_or rs i 0) s ≡ false = ne_eqb _ _ (λ e. once.0 (subst (λ (q : ℕ). Among q rs) e (get_or-among rs i inside))) in
    rw apart (brought-at rs bytes i once.1 (le_of_suc-le-suc few) (le_of_suc-le-suc h))

idle-allowed : (t : Tables) → is_allowed t Idle ≡ true
unfolding is_allowed
idle-allowed t = refl

abbrev st : List ℕ → List ℕ → Operation → State
st k m op = record { kept = k; marks = m; operation = op }

module _ (t : Tables) (ok : sound t ≡ true) where
  -- 20, 21 and 22 are passed
  passes : (k m : List ℕ) (op : Operation) (o : Outcome) → register_count t ≤ length k → variable_count t ≤ length m → is_allowed t op ≡ true
      → unless (checked sound t (st k m op) []) (st k m op) o ≡ o
  unfolding unless is_long
  passes k m op o hk hm allowed = rw (ok, le-leb _ _ hk, le-leb _ _ hm, allowed)

  -- after a last confirmation nothing is left to confirm
  ended : (o : Outcome) (bytes : List ℕ) (access : ℕ → Access) (rs : List ℕ) (n : ℕ) (done : Answer) → n ≡ length rs → length bytes ≡ 0 → o.answer ≡ done
      → answers_of t o bytes ≡ take (suc (length bytes)) (map Offered (map access (drop n rs)) ++ (done ∷ []))
  unfolding answers_of
  ended o [] access rs n done last none_left said =
      ap (λ (a : Answer). a ∷ []) said ∙ sym (ap (take 1) (all-offered access rs n (done ∷ []) last))
  ended o (byte ∷ bytes) access rs n done last none_left said = let z : ◌≡◌ {A = ℕ} (suc (length bytes)) 0 = none_left in absurd (omega arith)

  -- ── a write ──

  -- its byte depends on the record at its own register alone
  byte-same : (f g : ℕ → ℕ) (v x r : ℕ) → f r ≡ g r → written_byte t f v x r ≡ written_byte t g v x r
  unfolding written_byte settings_byte other_bit
  byte-same f g v x r e =
      ap (λ (q : ℕ). number_of (register_width t r) (λ b. settings_bit t ((v, x) ∷ []) r b (cond (is_dot t writing r b) (bit b q) (is_one t writing r b)))) e

  abbrev offered_write : (ℕ → ℕ) → ℕ → ℕ → ℕ → Access
  offered_write f v x r = access_at t writing r (written_byte t f v x r)

  writes-from : (bytes k m : List ℕ) (f : ℕ → ℕ) (v n x : ℕ) → v < variable_count t → variable_has t writing v ≡ true → x < 2 ^ size t writing v
      → register_count t ≤ length k → variable_count t ≤ length m → n < steps_of t writing v → n + length bytes ≤ steps_of t writing v
      → ((i : ℕ) → n ≤ i → i < steps_of t writing v → get_or k (register_taken t writing v i) 0 ≡ f (register_taken t writing v i))
      → answers_of t (record { answer = Offered (write_access t (st k m (Writing v n x)) v n x); state = st k m (Writing v n x) }) bytes
      ≡ take (suc (length bytes)) (map Offered (map (offered_write f v x) (drop n (registers_of t writing v))) ++ (Done (decode (kind_of t v) (size t writing v) x) (steps_of t writing v) ∷ []))
  unfolding answers_of
  writes-from [] k m f v n x hv has hx hk hm hn hb same =
      ap (λ (byte : ℕ). Offered (access_at t writing (register_taken t writing v n) byte) ∷ [])
      (byte-same (λ r. get_or k r 0) f v x (register_taken t writing v n) (same n (omega arith) hn))
      ∙ sym (next-offer (offered_write f v x) (registers_of t writing v) n 0 _ hn)
  writes-from (byte ∷ bytes) k m f v n x hv has hx hk hm hn hb same =
      ap₂ (λ (a : Answer) (l : List Answer). a ∷ l)
      (ap (λ (b : ℕ). Offered (access_at t writing r b)) (byte-same (λ q. get_or k q 0) f v x r (same n (omega arith) hn)))
      (ap (λ (o : Outcome). answers_of t o bytes)
      (passes k m (Writing v n x) (confirmed t s (Writing v n x) byte) hk hm (allow-writing t v n x (is_underway_lem t writing v n hv has hn) hx))
      ∙ go (is_last t writing v (suc n)) refl
      (λ more. writes-from bytes k' m f v (suc n) x hv has hx (rw (length-set k r (written_byte t (λ q. get_or k q 0) v x r)) hk) hm more (omega arith)
      (λ i hi hs. get_or-set_other k r (register_taken t writing v i) _ 0 (once-apart (registers_of t writing v) n i (each-once t writing v).once hi hs) ∙ same i (omega arith) hs)))
      ∙ sym (next-offer (offered_write f v x) (registers_of t writing v) n (suc (length bytes)) _ hn)
    where
      r : ℕ
      r = register_taken t writing v n

      s : State
      s = st k m (Writing v n x)

      k' : List ℕ
      k' = set k r (written_byte t (λ q. get_or k q 0) v x r)

      end : List Answer
      end = Done (decode (kind_of t v) (size t writing v) x) (steps_of t writing v) ∷ []

      go : (last : Bool) → is_last t writing v (suc n) ≡ last
          → (suc n < steps_of t writing v
          → answers_of t (record { answer = Offered (write_access t (st k' m (Writing v (suc n) x)) v (suc n) x); state = st k' m (Writing v (suc n) x) }) bytes
          ≡ take (suc (length bytes)) (map Offered (map (offered_write f v x) (drop (suc n) (registers_of t writing v))) ++ end))
          → answers_of t (write_on last t (keeping s r (written_byte t (λ q. get_or k q 0) v x r)) v (suc n) x) bytes
          ≡ take (suc (length bytes)) (map Offered (map (offered_write f v x) (drop (suc n) (registers_of t writing v))) ++ end)
      go true e rest =
          let last = eqb-true (suc n) _ e in
          ended _ bytes (offered_write f v x) (registers_of t writing v) (suc n) _ last (omega arith)
          (ap (λ (count : ℕ). Done (decode (kind_of t v) (size t writing v) x) count) last)
      go false e rest = rest (lt_of_le-ne hn (eqb-false (suc n) _ e))

  -- ── a read ──

  abbrev offered_read : ℕ → Access
  offered_read r = access_at t reading r 0

  -- the pattern whose bits come from these bytes of registers
  abbrev pattern_from : (ℕ → ℕ) → ℕ → ℕ
  pattern_from byte_of v = number_of (size t reading v) (λ j. bit (spot_of t reading v j) (byte_of (home_of t reading v j)))

  -- what is gathered of the registers read so far is theirs
  abbrev GatheredOf : (ℕ → ℕ) → ℕ → ℕ → ℕ → Type 0
  GatheredOf byte_of v n g =
      (j : ℕ) → j < size t reading v → Among (home_of t reading v j) (take n (registers_of t reading v)) → bit j g ≡ bit (spot_of t reading v j) (byte_of (home_of t reading v j))

  gathers : (byte_of : ℕ → ℕ) (v n g byte : ℕ) → byte ≡ byte_of (register_taken t reading v n) → GatheredOf byte_of v n g
      → GatheredOf byte_of v (suc n) (gather t v g (register_taken t reading v n) byte)
  gathers byte_of v n g byte is so_far j hj among = go (either (eqb (home_of t reading v j) r)) (among-take (registers_of t reading v) n _ among)
    where
      r : ℕ
      r = register_taken t reading v n

      go : (eqb (home_of t reading v j) r ≡ true) ⊎ (eqb (home_of t reading v j) r ≡ false)
          → Among (home_of t reading v j) (take n (registers_of t reading v)) ⊎ (home_of t reading v j ≡ r)
          → bit j (gather t v g r byte) ≡ bit (spot_of t reading v j) (byte_of (home_of t reading v j))
      go (inl e) either_way =
          let here = eqb-true _ r e in
          gather-here t v g r byte j hj here ∙ ap (bit (spot_of t reading v j)) (is ∙ ap byte_of (sym here))
      go (inr n) (inl was) = gather-there t v g r byte j hj (eqb-false _ r n) ∙ so_far j hj was
      go (inr n) (inr e) = absurd (eqb-false _ r n e)

  complete : (byte_of : ℕ → ℕ) (v n x : ℕ) → n ≡ steps_of t reading v → x < 2 ^ size t reading v → GatheredOf byte_of v n x → x ≡ pattern_from byte_of v
  complete byte_of v n x last small gathered =
      bits-equal (size t reading v) _ _ small (number_lt (size t reading v) _)
      (λ j hj.
      gathered j hj
      (subst (Among (home_of t reading v j)) (sym (ap (λ (i : ℕ). take i (registers_of t reading v)) last ∙ take-length (registers_of t reading v)))
      (mentioned t reading v j hj))
      ∙ sym (bit-number (size t reading v) _ j hj))

  -- the bytes to come obey
  abbrev ObeyedFrom : ℕ → ℕ → List ℕ → Type 0
  ObeyedFrom v n bytes = (i : ℕ) → i < length bytes → obeys t reading (register_taken t reading v (n + i)) (get_or bytes i 0) ≡ true

  first-obeys : (v n byte : ℕ) (bytes : List ℕ) → ObeyedFrom v n (byte ∷ bytes) → obeys t reading (register_taken t reading v n) byte ≡ true
  first-obeys v n byte bytes all = ap (λ (q : ℕ). obeys t reading (register_taken t reading v q) byte) (sym (at_start_lem n)) ∙ all 0 (omega arith)
    where
      at_start_lem : (n : ℕ) → n + 0 ≡ n
      at_start_lem n = omega arith

  others-obey : (v n byte : ℕ) (bytes : List ℕ) → ObeyedFrom v n (byte ∷ bytes) → ObeyedFrom v (suc n) bytes
  others-obey v n byte bytes all i hi =
      ap (λ (q : ℕ). obeys t reading (register_taken t reading v q) (get_or bytes i 0)) (shifted n i) ∙ all (suc i) (omega arith)
    where
      shifted : (n i : ℕ) → suc n + i ≡ n + suc i
      shifted n i = omega arith

  -- a confirmation whose byte obeys, and one whose byte does not
  confirms-read : (k m : List ℕ) (v n g byte : ℕ) → v < variable_count t → variable_has t reading v ≡ true → is_gathered t v n g ≡ true
      → register_count t ≤ length k → variable_count t ≤ length m → n < steps_of t reading v → obeys t reading (register_taken t reading v n) byte ≡ true
      → confirm sound t (st k m (Reading v n g)) byte
      ≡ read_on (is_last t reading v (suc n)) t (st k m (Reading v n g)) v (suc n) (gather t v g (register_taken t reading v n) byte)
  confirms-read k m v n g byte hv has is hk hm hn obeyed =
      passes k m (Reading v n g) (confirmed t (st k m (Reading v n g)) (Reading v n g) byte) hk hm (allow-reading t v n g (is_underway_lem t reading v n hv has hn) is)
      ∙ rw obeyed refl

  stops-read : (k m : List ℕ) (v n g byte : ℕ) → v < variable_count t → variable_has t reading v ≡ true → is_gathered t v n g ≡ true
      → register_count t ≤ length k → variable_count t ≤ length m → n < steps_of t reading v → obeys t reading (register_taken t reading v n) byte ≡ false
      → confirm sound t (st k m (Reading v n g)) byte ≡ record { answer = Stopped 52 (register_taken t reading v n); state = st k m Idle }
  stops-read k m v n g byte hv has is hk hm hn differs =
      passes k m (Reading v n g) (confirmed t (st k m (Reading v n g)) (Reading v n g) byte) hk hm (allow-reading t v n g (is_underway_lem t reading v n hv has hn) is)
      ∙ rw differs refl

  reads-from : (bytes k m : List ℕ) (byte_of : ℕ → ℕ) (v n g : ℕ) → v < variable_count t → variable_has t reading v ≡ true → is_gathered t v n g ≡ true
      → register_count t ≤ length k → variable_count t ≤ length m → n < steps_of t reading v → n + length bytes ≤ steps_of t reading v
      → ((i : ℕ) → i < length bytes → get_or bytes i 0 ≡ byte_of (register_taken t reading v (n + i))) → ObeyedFrom v n bytes → GatheredOf byte_of v n g
      → answers_of t (record { answer = Offered (read_access t v n); state = st k m (Reading v n g) }) bytes
      ≡ take (suc (length bytes)) (map Offered (map offered_read (drop n (registers_of t reading v))) ++ (Done (decode (kind_of t v) (size t reading v) (pattern_from byte_of v)) (steps_of t reading v) ∷ []))
  unfolding answers_of
  reads-from [] k m byte_of v n g hv has is hk hm hn hb brought obeyed gathered = sym (next-offer offered_read (registers_of t reading v) n 0 _ hn)
  reads-from (byte ∷ bytes) k m byte_of v n g hv has is hk hm hn hb brought obeyed gathered =
      ap (λ (l : List Answer). Offered (read_access t v n) ∷ l)
      (ap (λ (o : Outcome). answers_of t o bytes)
      (confirms-read k m v n g byte hv has is hk hm hn (first-obeys v n byte bytes obeyed))
      ∙ go (is_last t reading v (suc n)) refl
      (λ more. reads-from bytes k m byte_of v (suc n) g' hv has (gathered-more t v n g byte hn is) hk hm more (omega arith)
      (λ i hi. brought (suc i) (omega arith) ∙ ap (λ (q : ℕ). byte_of (register_taken t reading v q)) (shifted n i)) (others-obey v n byte bytes obeyed) grown))
      ∙ sym (next-offer offered_read (registers_of t reading v) n (suc (length bytes)) _ hn)
    where
      r : ℕ
      r = register_taken t reading v n

      s : State
      s = st k m (Reading v n g)

      g' : ℕ
      g' = gather t v g r byte

      end : List Answer
      end = Done (decode (kind_of t v) (size t reading v) (pattern_from byte_of v)) (steps_of t reading v) ∷ []

      shifted : (n i : ℕ) → n + suc i ≡ suc n + i
      shifted n i = omega arith

      grown : GatheredOf byte_of v (suc n) g'
      grown =
          gathers byte_of v n g byte (brought 0 (omega arith) ∙ ap (λ (q : ℕ). byte_of (register_taken t reading v q)) (at_start_lem n)) gathered
        where
          at_start_lem : (n : ℕ) → n + 0 ≡ n
          at_start_lem n = omega arith

      go : (last : Bool) → is_last t reading v (suc n) ≡ last
          → (suc n < steps_of t reading v
          → answers_of t (record { answer = Offered (read_access t v (suc n)); state = st k m (Reading v (suc n) g') }) bytes
          ≡ take (suc (length bytes)) (map Offered (map offered_read (drop (suc n) (registers_of t reading v))) ++ end))
          → answers_of t (read_on last t s v (suc n) g') bytes
          ≡ take (suc (length bytes)) (map Offered (map offered_read (drop (suc n) (registers_of t reading v))) ++ end)
      go true e rest =
          let last = eqb-true (suc n) _ e in
          ended _ bytes offered_read (registers_of t reading v) (suc n) _ last (omega arith)
          (ap₂ {C = Answer} Done (ap (decode (kind_of t v) (size t reading v)) (complete byte_of v (suc n) g' last (gather-lt t v g r byte) grown)) last)
      go false e rest = rest (lt_of_le-ne hn (eqb-false (suc n) _ e))

  -- ── a byte that differs ──

  -- what is confirmed with nothing in hand is refused
  then-idle : (k m more : List ℕ) (a : Answer) → register_count t ≤ length k → variable_count t ≤ length m
      → answers_of t (record { answer = a; state = st k m Idle }) more ≡ a ∷ map (λ (b : ℕ). Refused 24) more
  unfolding answers_of
  then-idle k m [] a hk hm = refl
  then-idle k m (byte ∷ more) a hk hm =
      ap (λ (l : List Answer). a ∷ l)
      (ap (λ (o : Outcome). answers_of t o more) (passes k m Idle (confirmed t (st k m Idle) Idle byte) hk hm (idle-allowed t)) ∙ then-idle k m more (Refused 24) hk hm)

  stops-from : (bytes more : List ℕ) (byte : ℕ) (k m : List ℕ) (v n g : ℕ) → v < variable_count t → variable_has t reading v ≡ true → is_gathered t v n g ≡ true
      → register_count t ≤ length k → variable_count t ≤ length m → n + length bytes < steps_of t reading v → ObeyedFrom v n bytes
      → obeys t reading (register_taken t reading v (n + length bytes)) byte ≡ false
      → answers_of t (record { answer = Offered (read_access t v n); state = st k m (Reading v n g) }) (bytes ++ (byte ∷ more))
      ≡ map Offered (take (suc (length bytes)) (map offered_read (drop n (registers_of t reading v))))
      ++ (Stopped 52 (register_taken t reading v (n + length bytes)) ∷ map (λ (b : ℕ). Refused 24) more)
  unfolding answers_of
  stops-from [] more byte k m v n g hv has is hk hm hn obeyed differs =
      ap (λ (l : List Answer). Offered (read_access t v n) ∷ l)
      (ap (λ (o : Outcome). answers_of t o more)
      (stops-read k m v n g byte hv has is hk hm (omega arith) (ap (λ (q : ℕ). obeys t reading (register_taken t reading v q) byte) (sym (at_start_lem n)) ∙ differs))
      ∙ then-idle k m more _ hk hm
      ∙ ap (λ (q : ℕ). Stopped 52 (register_taken t reading v q) ∷ map (λ (b : ℕ). Refused 24) more) (sym (at_start_lem n)))
      ∙ sym (ap (λ (l : List ℕ). map Offered (take 1 (map offered_read l)) ++ (Stopped 52 (register_taken t reading v (n + 0)) ∷ map (λ (b : ℕ). Refused 24) more))
      (drop-cons (registers_of t reading v) n 0 (omega arith)))
    where
      at_start_lem : (n : ℕ) → n + 0 ≡ n
      at_start_lem n = omega arith
  stops-from (first ∷ bytes) more byte k m v n g hv has is hk hm hn obeyed differs =
      let more_left : suc n ≡ steps_of t reading v → ⊥ = λ e. omega arith in
      ap (λ (l : List Answer). Offered (read_access t v n) ∷ l)
      (ap (λ (o : Outcome). answers_of t o (bytes ++ (byte ∷ more)))
      (confirms-read k m v n g first hv has is hk hm (omega arith) (first-obeys v n first bytes obeyed)
      ∙ ap (λ (last : Bool). read_on last t (st k m (Reading v n g)) v (suc n) (gather t v g (register_taken t reading v n) first)) (ne_eqb _ _ more_left))
      ∙ stops-from bytes more byte k m v (suc n) (gather t v g (register_taken t reading v n) first) hv has (gathered-more t v n g first (omega arith) is) hk hm
      (omega arith) (others-obey v n first bytes obeyed)
      (ap (λ (q : ℕ). obeys t reading (register_taken t reading v q) byte) (shifted n (length bytes)) ∙ differs)
      ∙ ap (λ (q : ℕ). map Offered (take (suc (length bytes)) (map offered_read (drop (suc n) (registers_of t reading v))))
      ++ (Stopped 52 (register_taken t reading v q) ∷ map (λ (b : ℕ). Refused 24) more)) (shifted n (length bytes)))
      ∙ sym (ap (λ (l : List ℕ). map Offered (take (suc (suc (length bytes))) (map offered_read l))
      ++ (Stopped 52 (register_taken t reading v (n + suc (length bytes))) ∷ map (λ (b : ℕ). Refused 24) more))
      (drop-cons (registers_of t reading v) n 0 (omega arith)))
    where
      shifted : (n i : ℕ) → suc n + i ≡ n + suc i
      shifted n i = omega arith

-- ── from a begin ──

-- 20 and 21 as facts
stands : (t : Tables) (s : State) → not (sound t) ≡ false → not (is_long t s) ≡ false
    → (sound t ≡ true) × (register_count t ≤ length s.kept) × (variable_count t ≤ length s.marks)
unfolding is_long
stands t s is-sound is-long =
    let are-long = both (leb (register_count t) (length s.kept)) _ (not-false _ is-long) in
    (not-false _ is-sound, leb-true _ _ are-long.0, leb-true _ _ are-long.1)

-- every answer, where all is confirmed
whole_of : (accesses : List Access) (value : ℤ) (n : ℕ) → n ≡ length accesses → take (suc n) (offers_then_done accesses value) ≡ offers_then_done accesses value
whole_of accesses value n e =
    take_all (suc n) (offers_then_done accesses value)
    (omega (arith, length-append (map Offered accesses) (Done value (length accesses) ∷ []), length-map accesses Offered))

module _ (t : Tables) (s : State) (v : ℕ) where
  abbrev Answered : List Access → (List ℕ → ℤ) → (List ℕ → Type 0) → Outcome → Type 0
  Answered accesses value good o = (bytes : List ℕ) → good bytes → length bytes ≤ length accesses → answers_of t o bytes ≡ take (suc (length bytes)) (offers_then_done accesses (value bytes))

  write-answers : (z : ℤ) → refusal_of (begin_write sound t s v z).answer ≡ none → Answered (write_plan t s v z) (λ bytes. z) Ignored (begin_write sound t s v z)
  write-answers z =
      unless-cases (λ o. refusal_of o.answer ≡ none → Answered (write_plan t s v z) (λ bytes. z) Ignored o) (write_tests sound t s v z) s _
      (λ n e. absurd (some≢none n e))
      (λ passed e bytes any few.
      let (is-sound, (is-long, (_, (_, (there, (has, (low, (high, _)))))))) = passed in
      let (ok, hk, hm) = stands t s is-sound is-long in
      let hv = ltb-true _ _ (not-false _ there) in
      let here = not-false _ has in
      let in_range_lem = neither (kind_of t v) (size t writing v) z low high in
      let x = encode (size t writing v) z in
      let count = length-map (registers_of t writing v) (λ (r : ℕ). access_at t writing r (written_byte t (kept_of s) v x r)) in
      writes-from t ok bytes s.kept s.marks (kept_of s) v 0 x hv here (encode-lt (kind_of t v) (size t writing v) z in_range_lem) hk hm
      (some-step t (consistent t ok) writing v hv here) (omega arith) (λ i hi hs. refl)
      ∙ ap₂ (λ (y : ℤ) (n : ℕ). take (suc (length bytes)) (map Offered (write_plan t s v z) ++ (Done y n ∷ []))) (decode-encode (kind_of t v) (size t writing v) z in_range_lem) (sym count))

  read-answers : refusal_of (begin_read sound t s v).answer ≡ none → Answered (read_plan t v) (value_read t v) (Obeyed t v) (begin_read sound t s v)
  read-answers =
      unless-cases (λ o. refusal_of o.answer ≡ none → Answered (read_plan t v) (value_read t v) (Obeyed t v) o) (read_tests sound t s v) s _
      (λ n e. absurd (some≢none n e))
      (λ passed e bytes obeyed few.
      let (is-sound, (is-long, (_, (_, (there, (has, _)))))) = passed in
      let (ok, hk, hm) = stands t s is-sound is-long in
      let hv = ltb-true _ _ (not-false _ there) in
      let here = not-false _ has in
      let count = length-map (registers_of t reading v) (λ (r : ℕ). access_at t reading r 0) in
      reads-from t ok bytes s.kept s.marks (brought_for (registers_of t reading v) bytes) v 0 0 hv here (gathered_none t v) hk hm
      (some-step t (consistent t ok) reading v hv here) (omega arith)
      (λ i hi.
      brought-at (registers_of t reading v) bytes i (each-once t reading v).once (omega arith) hi
      ∙ ap (λ (q : ℕ). brought_for (registers_of t reading v) bytes (register_taken t reading v q)) (sym (zero-add i)))
      (λ i hi. ap (λ (q : ℕ). obeys t reading (register_taken t reading v q) (get_or bytes i 0)) (zero-add i) ∙ obeyed i hi)
      (λ j hj nothing. absurd nothing)
      ∙ ap (λ (n : ℕ). take (suc (length bytes)) (map Offered (read_plan t v) ++ (Done (value_read t v bytes) n ∷ []))) (sym count))

  abbrev Stops : Outcome → Type 0
  Stops o =
      (bytes more : List ℕ) (byte : ℕ) → Obeyed t v bytes → length bytes < steps_of t reading v
      → obeys t reading (register_taken t reading v (length bytes)) byte ≡ false
      → answers_of t o (bytes ++ (byte ∷ more))
      ≡ map Offered (take (suc (length bytes)) (read_plan t v))
      ++ (Stopped 52 (register_taken t reading v (length bytes)) ∷ map (λ (b : ℕ). Refused 24) more)

  pub read-stops : StopsAtMisfit t (begin_read sound t s v) v
  read-stops =
      record {
        stops = unless-cases (λ o. refusal_of o.answer ≡ none → Stops o) (read_tests sound t s v) s _
            (λ n e. absurd (some≢none n e))
            (λ passed e bytes more byte obeyed hn differs.
            let (is-sound, (is-long, (_, (_, (there, (has, _)))))) = passed in
            let (ok, hk, hm) = stands t s is-sound is-long in
            let at : 0 + length bytes ≡ length bytes = zero-add (length bytes) in
            stops-from t ok bytes more byte s.kept s.marks v 0 0 (ltb-true _ _ (not-false _ there)) (not-false _ has) (gathered_none t v) hk hm (omega arith)
            (λ i hi. ap (λ (q : ℕ). obeys t reading (register_taken t reading v q) (get_or bytes i 0)) (zero-add i) ∙ obeyed i hi)
            (ap (λ (q : ℕ). obeys t reading (register_taken t reading v q) byte) at ∙ differs)
            ∙ ap (λ (q : ℕ). map Offered (take (suc (length bytes)) (read_plan t v)) ++ (Stopped 52 (register_taken t reading v q) ∷ map (λ (b : ℕ). Refused 24) more)) at);
      }

  -- the variable of a begin that was not refused, in sound tables
  abbrev Sound : Outcome → Type 0
  Sound o = refusal_of o.answer ≡ none → (sound t ≡ true) × (v < variable_count t)

  sound-read : Sound (begin_read sound t s v)
  sound-read =
      unless-cases Sound (read_tests sound t s v) s _ (λ n e. absurd (some≢none n e))
      (λ passed e.
      let (is-sound, (_, (_, (_, (there, _))))) = passed in
      (not-false _ is-sound, ltb-true _ _ (not-false _ there)))

  sound-write : (z : ℤ) → Sound (begin_write sound t s v z)
  sound-write z =
      unless-cases Sound (write_tests sound t s v z) s _ (λ n e. absurd (some≢none n e))
      (λ passed e.
      let (is-sound, (_, (_, (_, (there, _))))) = passed in
      (not-false _ is-sound, ltb-true _ _ (not-false _ there)))

  pub read-steps : GoesByPlan t (begin_read sound t s v) (read_plan t v) (value_read t v) (Obeyed t v)
  read-steps =
      record {
        answers = read-answers;
        whole = λ e bytes obeyed all. read-answers e bytes obeyed (omega arith) ∙ whole_of (read_plan t v) (value_read t v bytes) (length bytes) all;
        few = λ e.
            let (ok, hv) = sound-read e in
            rw (length-map (registers_of t reading v) (λ (r : ℕ). access_at t reading r 0)) (at-most-8 t reading v ok hv);
      }

  pub write-steps : (z : ℤ) → GoesByPlan t (begin_write sound t s v z) (write_plan t s v z) (λ bytes. z) Ignored
  write-steps z =
      record {
        answers = write-answers z;
        whole = λ e bytes any all. write-answers z e bytes any (omega arith) ∙ whole_of (write_plan t s v z) z (length bytes) all;
        few = λ e.
            let (ok, hv) = sound-write z e in
            rw (length-map (registers_of t writing v) (λ (r : ℕ). access_at t writing r (written_byte t (kept_of s) v (encode (size t writing v) z) r)))
            (at-most-8 t writing v ok hv);
      }
