-- The variable's readers agree with the count of sizes.
-- Assumes nothing.
use Prim.Native.Nat.{ℕ, suc}
use mathlib.Core.Path.{◌≡◌, refl}
use mathlib.Core.Bool.{Bool, true, false}
use mathlib.Core.List.{List}
use mathlib.Core.Option.{Option}
use lib.Dec.{eqb, ltb}
use lib.ListN.{length}
use Rattle.syntax.specs.Step.{Step}
use Rattle.syntax.specs.declared.attribute.Behaviours.{Behaviours}
use Rattle.syntax.specs.declared.reader.Read.{Read}
use Rattle.syntax.specs.Reader.{seen_at, fixed_after, name_after}
use Rattle.syntax.specs.Register.{mark_after}
use Rattle.syntax.specs.Attribute.{trigger_after, behaviour_after, behaviour_turn, more_behaviours, int_after, type_after}
use Rattle.syntax.specs.declared.reader.Named.{Named}
use Rattle.syntax.specs.Items.{closed_by}
use Rattle.syntax.specs.Piece.{range_piece, bracket_after, named_piece, piece_after, pieces_after}
use Rattle.syntax.proofs.TallyItems.{Counted, one_more_lem, agrees-unless_full, agrees-items}
use Rattle.syntax.specs.Variable.{second_marked, second_after, rest_after, variable_after}
use Rattle.syntax.specs.Sizes.{body, piece, bracket, onward, passes_at, Tally, tallied, too_much}
use Rattle.syntax.proofs.LoopSteps.{loop-keeps}
use Rattle.syntax.proofs.Tally.{Agrees, agrees-tok, agrees-past, agrees-name, agrees-enclosed, or-false}
use Rattle.syntax.proofs.TallyParameter.{agrees-range}
use Rattle.syntax.proofs.TallyRegister.{agrees-mark}

module _ (text : List ℕ) (w : Option ℕ) (registers variables : ℕ) where
  -- the count in the n-th piece of a list, and in its brackets
  abbrev in_piece : ℕ → Tally
  in_piece n = record { registers = registers; variables = variables; spot = piece n }

  abbrev in_bracket : ℕ → Tally
  in_bracket n = record { registers = registers; variables = variables; spot = bracket n }

  -- ---- in brackets

  module _ (place extent : ℕ) where
    -- a range as one more piece, or as one too many
    range_piece_lem : (count : ℕ) (table : List ℕ) (s : Step) → ltb 8 count ≡ false → Agrees text w (in_bracket (suc count)) s → Counted text w 8 in_bracket (range_piece text place extent count table s)
    unfolding range_piece tallied too_much passes_at onward
    range_piece_lem count table s few a =
        agrees-unless_full text w 8 in_bracket 2 refl (λ n e. e) count table s _ few a
        (λ fits. one_more_lem text w 8 in_bracket count _ fits (agrees-range text w (in_bracket (suc count)) (fits, refl) (fits, refl) s a))

    -- range (, range)* ]
    in_bracket_lem : (count : ℕ) (table : List ℕ) (s : Step) → ltb 8 count ≡ false → Agrees text w (in_bracket (suc count)) s → Counted text w 8 in_piece (bracket_after text place extent count table s)
    unfolding bracket_after closed_by tallied too_much passes_at onward
    in_bracket_lem count table s few a =
        let all =
        agrees-items text w 8 in_bracket (range_piece text place extent) 300 range_piece_lem (λ n s few i a. agrees-past text w 300 (in_bracket n) refl refl few s i a) count table s few a in
        (all.0, agrees-tok text w 349 (in_bracket _) refl refl all.0 _ all.1)

  -- ---- a list

  -- ([ ranges ])?, behind the name
  named_piece_lem : (count : ℕ) (table : List ℕ) (name : Named) → ltb 8 count ≡ false → ltb 8 (suc count) ≡ false → Agrees text w (in_piece (suc count)) name.step
      → Counted text w 8 in_piece (named_piece text count table name)
  unfolding named_piece tallied too_much passes_at onward
  named_piece_lem count table name few fits a = by (eqb (seen_at text name.step).kind 347) refl
    where
      by : (d : Bool) → eqb (seen_at text name.step).kind 347 ≡ d → Counted text w 8 in_piece (named_piece text count table name)
      by true i = rw i (in_bracket_lem _ _ count table _ few (agrees-past text w 347 (in_piece (suc count)) refl refl fits name.step i a))
      by false i = rw i (one_more_lem text w 8 in_piece count _ fits a)

  -- name ([ ranges ])?
  one_piece : (count : ℕ) (table : List ℕ) (s : Step) → ltb 8 count ≡ false → Agrees text w (in_piece (suc count)) s → Counted text w 8 in_piece (piece_after text count table s)
  unfolding piece_after tallied too_much passes_at onward
  one_piece count table s few a =
      agrees-unless_full text w 8 in_piece 1 refl (λ n e. e) count table s _ few a
      (λ fits. named_piece_lem count table (name_after text s) few fits (agrees-name text w (in_piece (suc count)) fits s a))

  -- THE PIECES OF A LIST
  pub agrees-pieces : (table : List ℕ) (s : Step) → Agrees text w (in_piece 1) s → Counted text w 8 in_piece (pieces_after text table s)
  unfolding pieces_after tallied too_much passes_at onward
  agrees-pieces table s a = agrees-items text w 8 in_piece (piece_after text) 291 one_piece (λ n s few i a. agrees-past text w 291 (in_piece n) refl refl few s i a) 0 table s refl a

  -- ---- what follows a list

  -- somewhere in a variable, outside of brackets
  abbrev pub InVariable : Step → Type 0
  InVariable s = (n : ℕ) × (ltb 8 n ≡ false) × Agrees text w (in_piece n) s

  in_list : (table : List ℕ) (s : Step) → Agrees text w (in_piece 1) s → InVariable (pieces_after text table s).listed.step
  in_list table s a = let all = agrees-pieces table s a in ((pieces_after text table s).listed.value, all.0, all.1)

  -- rw?, where a list or an attribute begins
  marked : (s : Step) → Agrees text w (in_piece 1) s → Agrees text w (in_piece 1) (mark_after text s).step
  unfolding tallied too_much passes_at onward
  marked s a = agrees-mark text w (in_piece 1) (refl, refl) (refl, refl) s a

  volatile-past : (s : Step) → eqb (seen_at text s).kind 538 ≡ true → Agrees text w (in_piece 1) s → Agrees text w (in_piece 1) (seen_at text s).past
  unfolding tallied too_much passes_at onward
  volatile-past s i a = agrees-past text w 538 (in_piece 1) refl refl refl s i a

  trigger : (b : Behaviours) (mark : ℕ) (s : Step) → Agrees text w (in_piece 1) s → Agrees text w (in_piece 1) (trigger_after text b mark s).step
  unfolding trigger_after tallied too_much passes_at onward
  trigger b mark s a = agrees-tok text w 533 (in_piece 1) refl refl refl s a

  -- volatile | rw? trigger
  behaviour : (b : Behaviours) (s : Step) → Agrees text w (in_piece 1) s → Agrees text w (in_piece 1) (behaviour_after text b s).step
  unfolding behaviour_after
  behaviour b s a = by (eqb (seen_at text s).kind 538) refl
    where
      by : (c : Bool) → eqb (seen_at text s).kind 538 ≡ c → Agrees text w (in_piece 1) (behaviour_after text b s).step
      by true i = rw i (volatile-past s i a)
      by false i = rw i (trigger b _ _ (marked s a))

  -- a comma outside of brackets ends a list
  comma-past : (n : ℕ) → ltb 8 n ≡ false → (s : Step) → eqb (seen_at text s).kind 300 ≡ true → Agrees text w (in_piece n) s → Agrees text w (in_piece 1) (seen_at text s).past
  unfolding tallied too_much passes_at onward
  comma-past n few s i a = agrees-past text w 300 (in_piece n) refl refl few s i a

  -- (, behaviour)*
  behaviours : (room : ℕ) (b : Behaviours) (s : Step) → InVariable s → InVariable (more_behaviours text room b s).step
  unfolding more_behaviours behaviour_turn
  behaviours room b s a =
      loop-keeps text (λ (m : Read Behaviours). m.step) (λ kind. eqb kind 300) (behaviour_turn text) (λ m. InVariable m.step)
      (λ m i a. (1, refl, behaviour m.value _ (comma-past a.0 a.1 m.step i a.2))) room (record { value = b; step = s }) a

  -- pieces | trigger
  second_marked_lem : (mark : ℕ) (table : List ℕ) (s : Step) → Agrees text w (in_piece 1) s → InVariable (second_marked text mark table s).tail.step
  unfolding second_marked
  second_marked_lem mark table s a = by (eqb (seen_at text s).kind 533) refl
    where
      by : (c : Bool) → eqb (seen_at text s).kind 533 ≡ c → InVariable (second_marked text mark table s).tail.step
      by true i = rw i (1, refl, trigger _ mark s a)
      by false i = rw i (in_list table s a)

  -- volatile | rw? (pieces | trigger)
  second : (table : List ℕ) (s : Step) → Agrees text w (in_piece 1) s → InVariable (second_after text table s).tail.step
  unfolding second_after
  second table s a = by (eqb (seen_at text s).kind 538) refl
    where
      by : (c : Bool) → eqb (seen_at text s).kind 538 ≡ c → InVariable (second_after text table s).tail.step
      by true i = rw i (1, refl, volatile-past s i a)
      by false i = rw i (second_marked_lem _ table _ (marked s a))

  rest : (table : List ℕ) (s : Step) → InVariable s → InVariable (rest_after text table s).tail.step
  unfolding rest_after
  rest table s a = by (eqb (seen_at text s).kind 300) refl
    where
      by : (c : Bool) → eqb (seen_at text s).kind 300 ≡ c → InVariable (rest_after text table s).tail.step
      by true i = rw i (behaviours (length text) _ _ (second table _ (comma-past a.0 a.1 s i a.2)))
      by false i = rw i a

  -- int ( number )
  int : (kind n : ℕ) → ltb 8 n ≡ false → (s : Step) → Agrees text w (in_piece n) s → Agrees text w (in_piece n) (int_after text kind s).step
  unfolding int_after tallied too_much passes_at onward
  int kind n few s a = agrees-enclosed text w (in_piece n) 522 296 297 (refl, refl, (few, refl)) (refl, refl, (few, refl)) (refl, refl, (few, refl)) (refl, refl, (few, refl)) s a

  type : (n : ℕ) → ltb 8 n ≡ false → (s : Step) → Agrees text w (in_piece n) s → Agrees text w (in_piece n) (type_after text s).step
  unfolding type_after tallied too_much passes_at onward
  type n few s a = by (eqb (seen_at text s).kind 514) refl (eqb (seen_at text s).kind 540) refl
    where
      by : (c : Bool) → eqb (seen_at text s).kind 514 ≡ c → (d : Bool) → eqb (seen_at text s).kind 540 ≡ d → Agrees text w (in_piece n) (type_after text s).step
      by true i d j = rw i (agrees-past text w 514 (in_piece n) refl refl few s i a)
      by false i true j = rw (i, j) (int 1 n few _ (agrees-past text w 540 (in_piece n) refl refl few s j a))
      by false i false j = rw (i, j) (int 0 n few s a)

  typed : (s : Step) → InVariable s → InVariable (type_after text (fixed_after text 314 s)).step
  unfolding tallied too_much passes_at onward
  typed s a = (a.0, a.1, type a.0 a.1 _ (agrees-tok text w 314 (in_piece a.0) refl refl a.1 s a.2))

  -- name = list rest : type, behind the word
  pub named-agrees : (one two : List ℕ) (s : Step) → Agrees text w (in_piece 1) (fixed_after text 537 s) → InVariable (variable_after text one two s).variable.step
  unfolding variable_after tallied too_much passes_at onward
  named-agrees one two s a =
      typed _ (rest two _ (in_list one _ (marked _ (agrees-tok text w 317 (in_piece 1) refl refl refl _ (agrees-name text w (in_piece 1) refl _ a)))))

-- THE VARIABLE, from outside of declarations
pub agrees-variable : (text : List ℕ) (w : Option ℕ) (r v : ℕ) → ltb 128 (suc v) ≡ false → (one two : List ℕ) (s : Step) → Agrees text w (record { registers = r; variables = v; spot = body }) s
    → InVariable text w r (suc v) (variable_after text one two s).variable.step
unfolding tallied too_much passes_at onward
agrees-variable text w r v fits one two s a =
    named-agrees text w r (suc v) one two s (agrees-tok text w 537 (record { registers = r; variables = v; spot = body }) refl refl (or-false (ltb 128 (suc v)) fits) s a)
