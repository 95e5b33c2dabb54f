-- A station that marks again what it had not finished never reads a mixture.
-- Assumes nothing.
use Prim.Native.Nat.{ℕ, zero, suc, ◌/◌, ◌^◌, ◌<◌}
use mathlib.Core.Path.{◌≡◌, refl, sym, ap, ◌∙◌, subst}
use mathlib.Core.Logic.{◌⊎◌, inl, inr}
use mathlib.Core.Bool.{Bool, true, false, cond, ◌||◌}
use mathlib.Core.List.{List, [], ◌∷◌}
use native.Mathlib.Nat.{not-suc-le-zero}
use native.Mathlib.Omega.{arith}
use lib.Dec.{eqb}
use lib.IntN.{ℤ, pos}
use lib.Pow.{pow_pos}
use borrow.Author.Tests.{eqb-true, eq-eqb, lt-ltb}
use Rattle.bits.specs.Values.{in_range, encode}
use Rattle.bits.proofs.RangeLaws.{not-outside}
use Rattle.tables.specs.declared.Part.TheVariants.{Write as writing}
use Rattle.tables.specs.View.{Tables, sound, Plain, Among, is_among, kind_of, size, without}
use Rattle.station.specs.declared.Operation.{Operation}
use Rattle.station.specs.declared.Operation.TheVariants.{Idle, Reading, Writing}
use Rattle.station.specs.Calls.{State, Outcome, unless, is_in_hand, begun_write, abandoned, begin_write, write_tests}
use Rattle.station.proofs.Cases.{is_among-is}
use Rattle.station.proofs.Refusals.{unless-cases}
use Rattle.board.specs.Board.{Event, Finished, Abandoned, Due, HalfWritten, must_read, Asked, Nothing, ToRead, ToWrite, noted, World, Call, BeginWrite, Abandon, begun, step, after}
use Rattle.board.specs.Demand.{Opening, power_on, world_after, due_after}
use Rattle.board.specs.Stops.{is_half, is_being_written, Settled, left_by}
use Rattle.board.specs.Middle.{Takes}
use Rattle.board.specs.Lost.{Agree}
use Rattle.board.specs.Remarks.{unfinished_in, with_asked, unfinished, remarks, AllFit, Covers, Remarked}
use Rattle.board.proofs.Steps.{InvW, idle-of, long-is, checked-alone, step_keeps}
use Rattle.board.proofs.Middle.{at_rest}
use Rattle.board.proofs.Lost.{known}
use Rattle.board.proofs.World.{ok, rules, world-holds}
use Rattle.logic.proofs.Tests.{either}

-- ── the list ──

among-without : (v u : ℕ) (list : List ℕ) → is_among v (without u list) ≡ cond (eqb v u) false (is_among v list)
unfolding without
among-without v u [] = go (eqb v u)
  where
    go : (b : Bool) → false ≡ cond b false false
    go true = refl
    go false = refl
among-without v u (q ∷ list) = go (either (eqb u q)) (either (eqb v u)) (among-without v u list)
  where
    go : (eqb u q ≡ true) ⊎ (eqb u q ≡ false) → (eqb v u ≡ true) ⊎ (eqb v u ≡ false) → is_among v (without u list) ≡ cond (eqb v u) false (is_among v list)
        → is_among v (cond (eqb u q) (without u list) (q ∷ without u list)) ≡ cond (eqb v u) false (eqb v q || is_among v list)
    go (inl here) (inl same) rest = rw (here, same) (rest ∙ rw same)
    go (inl here) (inr apart) rest = rw (here, apart) (rest ∙ rw (apart, sym-apart))
      where
        sym-apart : eqb v q ≡ false
        sym-apart = ap (λ (n : ℕ). eqb v n) (sym (eqb-true u q here)) ∙ apart
    go (inr there) (inl same) rest = rw (there, same) (rw (v-not-q) (rest ∙ rw same))
      where
        v-not-q : eqb v q ≡ false
        v-not-q = ap (λ (n : ℕ). eqb n q) (eqb-true v u same) ∙ there
    go (inr there) (inr apart) rest = rw (there, apart) (ap (λ (b : Bool). eqb v q || b) (rest ∙ rw apart))

unfinished-is : (es : List Event) (v : ℕ) → is_among v (unfinished_in es) ≡ is_half es v
unfolding unfinished_in is_half
unfinished-is [] v = refl
unfinished-is (Finished u z ∷ es) v = among-without v u (unfinished_in es) ∙ ap (cond (eqb v u) false) (unfinished-is es v)
unfinished-is (Abandoned u ∷ es) v = go (eqb v u) (unfinished-is es v)
  where
    go : (b : Bool) → is_among v (unfinished_in es) ≡ is_half es v → (b || is_among v (unfinished_in es)) ≡ cond b true (is_half es v)
    go true rest = refl
    go false rest = rest

-- 0 is in range for every kind
zero_in : (kind w : ℕ) → 0 < w → in_range kind w (pos 0) ≡ true
unfolding in_range
zero_in kind zero some-bit = absurd (not-suc-le-zero some-bit)
zero_in kind (suc w) some-bit = lt-ltb _ _ (go (eqb kind 1))
  where
    go : (b : Bool) → 0 < cond b (2 ^ suc w / 2) (2 ^ suc w)
    go true = omega (arith, pow_pos w)
    go false = pow_pos (suc w)

covers : (t : Tables) (w : World) → Covers t w (unfinished w)
covers t w v plain = go w.asked (either (is_among v (unfinished_in w.events))) refl
  where
    go : (asked : Asked) → (is_among v (unfinished_in w.events) ≡ true) ⊎ (is_among v (unfinished_in w.events) ≡ false) → w.asked ≡ asked
        → Among v (with_asked asked (unfinished_in w.events)) ⊎ Settled w v
    go Nothing (inl there) e = inl (is_among-is (unfinished_in w.events) v there)
    go Nothing (inr not) e = inr (record { whole = sym (unfinished-is w.events v) ∙ not; at_rest = ap (λ (q : Asked). is_being_written q v) e })
    go (ToRead u) (inl there) e = inl (is_among-is (unfinished_in w.events) v there)
    go (ToRead u) (inr not) e = inr (record { whole = sym (unfinished-is w.events v) ∙ not; at_rest = ap (λ (q : Asked). is_being_written q v) e })
    go (ToWrite u z) (inl there) e = inl (inr (is_among-is (unfinished_in w.events) v there))
    go (ToWrite u z) (inr not) e = by (either (eqb v u))
      where
        by : (eqb v u ≡ true) ⊎ (eqb v u ≡ false) → Among v (u ∷ unfinished_in w.events) ⊎ Settled w v
        by (inl same) = inl (inl (eqb-true v u same))
        by (inr apart) = inr (record { whole = sym (unfinished-is w.events v) ∙ not; at_rest = ap (λ (q : Asked). is_being_written q v) e ∙ apart })

-- ── one mark ──

module _ {t : Tables} {numbers : List ℕ} (o : Opening t numbers) where
  abbrev Holds : World → Type 0
  Holds w = InvW sound t (ok o) (rules o) (power_on numbers) w

  abbrev due : List Event → ℕ → Due
  due es v = must_read t (power_on numbers) es v

  -- the world after a write of u is begun and abandoned
  abbrev marked_once : ℕ → ℤ → World → World
  marked_once u y w = step sound t (Abandon false) (step sound t (BeginWrite u y) w)

  once-holds : (u : ℕ) (y : ℤ) (w : World) → Holds w → Holds (marked_once u y w)
  once-holds u y w i =
      step_keeps sound t (ok o) (rules o) (power_on numbers) (Abandon false) (step sound t (BeginWrite u y) w)
      (step_keeps sound t (ok o) (rules o) (power_on numbers) (BeginWrite u y) w i)

  once-rests : (u : ℕ) (y : ℤ) (w : World) → Holds w → (marked_once u y w).asked ≡ Nothing
  once-rests u y w i = at_rest o (step sound t (BeginWrite u y) w) false (step_keeps sound t (ok o) (rules o) (power_on numbers) (BeginWrite u y) w i)

  -- an end notes nothing, or that what was asked is abandoned
  abbrev NotesOf : ℕ → List Event → List Event → Type 0
  NotesOf u now es = (now ≡ es) ⊎ (now ≡ Abandoned u ∷ es)

  end-notes : (u : ℕ) (y : ℤ) (es : List Event) (s : State) (op : Operation) (asked : Asked) → (asked ≡ Nothing) ⊎ (asked ≡ ToWrite u y)
      → NotesOf u (noted (abandoned s op).answer asked es) es
  end-notes u y es s Idle asked was = inl refl
  end-notes u y es s (Reading v n g) asked (inl e) = inl (rw e)
  end-notes u y es s (Reading v n g) asked (inr e) = inr (rw e)
  end-notes u y es s (Writing v n x) asked (inl e) = inl (rw e)
  end-notes u y es s (Writing v n x) asked (inr e) = inr (rw e)

  begin-asks : (u : ℕ) (y : ℤ) (w : World) → w.asked ≡ Nothing
      → ((step sound t (BeginWrite u y) w).asked ≡ Nothing) ⊎ ((step sound t (BeginWrite u y) w).asked ≡ ToWrite u y)
  begin-asks u y w nothing =
      unless-cases (λ (q : Outcome). ((begun w q (ToWrite u y)).asked ≡ Nothing) ⊎ ((begun w q (ToWrite u y)).asked ≡ ToWrite u y)) (write_tests sound t w.state u y) w.state _
      (λ n. inl nothing) (λ passed. inr refl)

  once-notes : (u : ℕ) (y : ℤ) (w : World) → Holds w → w.asked ≡ Nothing → NotesOf u (marked_once u y w).events w.events
  once-notes u y w i nothing =
      let x : World = step sound t (BeginWrite u y) w in
      let j : Holds x = step_keeps sound t (ok o) (rules o) (power_on numbers) (BeginWrite u y) w i in
      subst (λ (q : Outcome). NotesOf u (noted q.answer x.asked w.events) w.events)
      (sym (checked-alone sound t (ok o) (rules o) (power_on numbers) x.state (abandoned x.state x.state.operation) j.1.engine.long j.1.allowed))
      (end-notes u y w.events x.state x.state.operation x.asked (begin-asks u y w nothing))

  -- a write that is taken on is marked
  takes-on : (u : ℕ) (y : ℤ) (w : World) → Holds w → w.asked ≡ Nothing → Takes t u y
      → begin_write sound t w.state u y ≡ begun_write t w.state u (encode (size t writing u) y)
  unfolding unless
  takes-on u y w i nothing takes =
      let idle : is_in_hand w.state.operation ≡ false = ap is_in_hand (idle-of w.state.operation w.asked i.0 i.2 nothing) in
      let (low, high) = not-outside (kind_of t u) (size t writing u) y takes.fits in
      rw (ok o, long-is sound t (ok o) (rules o) (power_on numbers) w.state i.1.engine.long, i.1.allowed, idle, lt-ltb _ _ takes.exists, takes.has_part, low, high)

  once-marks : (u : ℕ) (y : ℤ) (w : World) → Holds w → w.asked ≡ Nothing → Takes t u y → (marked_once u y w).events ≡ Abandoned u ∷ w.events
  once-marks u y w i nothing takes =
      let x : World = begun w (begun_write t w.state u (encode (size t writing u) y)) (ToWrite u y) in
      let first : step sound t (BeginWrite u y) w ≡ x = ap (λ (q : Outcome). begun w q (ToWrite u y)) (takes-on u y w i nothing takes) in
      let j : Holds x = subst Holds first (step_keeps sound t (ok o) (rules o) (power_on numbers) (BeginWrite u y) w i) in
      ap (λ (q : World). (step sound t (Abandon false) q).events) first
      ∙ ap (λ (q : Outcome). noted q.answer (ToWrite u y) w.events)
      (checked-alone sound t (ok o) (rules o) (power_on numbers) x.state (abandoned x.state x.state.operation) j.1.engine.long j.1.allowed)

  -- ── all marks ──

  half-or-same : (u v : ℕ) (now es : List Event) → NotesOf u now es → (due now v ≡ HalfWritten) ⊎ (due now v ≡ due es v)
  unfolding must_read
  half-or-same u v now es (inl e) = inr (rw e)
  half-or-same u v now es (inr e) = by (either (eqb v u))
    where
      by : (eqb v u ≡ true) ⊎ (eqb v u ≡ false) → (due now v ≡ HalfWritten) ⊎ (due now v ≡ due es v)
      by (inl same) = inl (rw (e, same))
      by (inr apart) = inr (rw (e, apart))

  -- what marking makes of v, between these notes
  pub record Marks (list : List ℕ) (now es : List Event) (v : ℕ) : Type 0 where
    pub those : Among v list → due now v ≡ HalfWritten
    pub all : (due now v ≡ HalfWritten) ⊎ (due now v ≡ due es v)

  marks-more : (u v : ℕ) (list : List ℕ) (last now es : List Event) → Marks list last now v → NotesOf u now es → (u ≡ v → now ≡ Abandoned u ∷ es)
      → Marks (u ∷ list) last es v
  unfolding must_read
  marks-more u v list last now es rest noted-so own = record { those = those; all = by rest.all (half-or-same u v now es noted-so) }
    where
      by : (due last v ≡ HalfWritten) ⊎ (due last v ≡ due now v) → (due now v ≡ HalfWritten) ⊎ (due now v ≡ due es v)
          → (due last v ≡ HalfWritten) ⊎ (due last v ≡ due es v)
      by (inl half) was = inl half
      by (inr same) (inl half) = inl (same ∙ half)
      by (inr same) (inr before) = inr (same ∙ before)

      at_once : v ≡ u → (due last v ≡ HalfWritten) ⊎ (due last v ≡ due now v) → due last v ≡ HalfWritten
      at_once e (inl half) = half
      at_once e (inr same) = same ∙ rw (own (sym e), eq-eqb v u e)

      those : Among v (u ∷ list) → due last v ≡ HalfWritten
      those (inl e) = at_once e rest.all
      those (inr more) = rest.those more

  pub all_rest : (value : ℕ → ℤ) (list : List ℕ) (w : World) → Holds w → w.asked ≡ Nothing → (after sound t (remarks value list) w).asked ≡ Nothing
  unfolding after remarks
  all_rest value [] w i nothing = nothing
  all_rest value (u ∷ list) w i nothing = all_rest value list (marked_once u (value u) w) (once-holds u (value u) w i) (once-rests u (value u) w i)

  pub all-marked : (value : ℕ → ℤ) (list : List ℕ) (w : World) → Holds w → w.asked ≡ Nothing → AllFit t value → (v : ℕ) → Plain t v
      → Marks list (after sound t (remarks value list) w).events w.events v
  unfolding after remarks
  all-marked value [] w i nothing fit v plain = record { those = λ none. absurd none; all = inr refl }
  all-marked value (u ∷ list) w i nothing fit v plain =
      marks-more u v list _ (marked_once u (value u) w).events w.events
      (all-marked value list (marked_once u (value u) w) (once-holds u (value u) w i) (once-rests u (value u) w i) fit v plain)
      (once-notes u (value u) w i nothing)
      (λ same. once-marks u (value u) w i nothing
      (subst (λ (q : ℕ). Takes t q (value q)) (sym same) (record { exists = plain.exists; has_part = plain.whole writing; fits = fit v plain })))

-- ── from an opening on ──

module _ {t : Tables} {power : List ℕ} (o : Opening t power) where
  marks-again : {numbers : List ℕ} (again : Opening t numbers) (value : ℕ → ℤ) (list : List ℕ) → AllFit t value → (v : ℕ) → Plain t v
      → Marks again list (world_after again (remarks value list)).events [] v
  unfolding after
  marks-again again value list = all-marked again value list (world_after again []) (world-holds again []) refl

  mixed-never : (calls : List Call) (performed : Bool) {numbers : List ℕ} (again : Opening t numbers) (value : ℕ → ℤ) (list : List ℕ)
      → Agree t (left_by t performed (world_after o calls)) numbers → AllFit t value → Covers t (world_after o calls) list → (v : ℕ) → Plain t v
      → (due_after again (remarks value list) v ≡ HalfWritten) ⊎ (due_after again (remarks value list) v ≡ due_after o calls v)
  unfolding after
  mixed-never calls performed again value list agree fit covered v plain = by (covered v plain) marks.all
    where
      marks : Marks again list (world_after again (remarks value list)).events [] v
      marks = marks-again again value list fit v plain

      by : Among v list ⊎ Settled (world_after o calls) v → (due_after again (remarks value list) v ≡ HalfWritten) ⊎ (due_after again (remarks value list) v ≡ due_after again [] v)
          → (due_after again (remarks value list) v ≡ HalfWritten) ⊎ (due_after again (remarks value list) v ≡ due_after o calls v)
      by (inl there) was = inl (marks.those there)
      by (inr settled) (inl half) = inl half
      by (inr settled) (inr same) = inr (same ∙ known o calls performed again v agree plain settled)

  pub remarked : Remarked t power o
  unfolding after
  remarked =
      record {
        kept-list = λ calls. covers t (world_after o calls);
        zero-fits = λ v plain. zero_in (kind_of t v) (size t writing v) ((rules o).some-bit writing v plain.exists (plain.whole writing));
        never-mixed = mixed-never;
        refused = λ again value list fit v plain. (marks-again again value list fit v plain).those;
        at_rest = λ again value list. all_rest again value list (world_after again []) (world-holds again []) refl;
      }
