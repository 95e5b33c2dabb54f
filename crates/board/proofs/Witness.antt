-- Demand 3 and what goes beyond it, on the scoring board: every premise is met, and what is said is computed as well.
-- Assumes nothing.
use Prim.Native.Nat.{ℕ, zero, suc, ◌<◌, ◌≤◌, ◌^◌}
use mathlib.Core.Path.{◌≡◌, refl, sym, ap, ap₂, ◌∙◌}
use mathlib.Core.Logic.{inl, inr}
use mathlib.Core.Bool.{Bool, true, false, true≢false, false≢true}
use mathlib.Core.List.{List, [], ◌∷◌, ◌++◌}
use native.Mathlib.Nat.{not-suc-le-zero, le_of_suc-le-suc}
use native.Mathlib.Omega.{arith}
use lib.IntN.{ℤ, pos, nat_abs}
use lib.ListN.{length, get_or, replicate}
use Rattle.tables.specs.declared.Part.{Part}
use Rattle.tables.specs.declared.Part.TheVariants.{Read as reading, Write as writing}
use Rattle.tables.specs.Marks.{joined, down_from}
use Rattle.tables.specs.View.{sound, Plain, Among, is_volatile, is_trigger, register_count, register_width, register_has, parameter_of, offset_of, is_dot, is_fixed, is_one, obeys, variable_count, kind_of, variable_has, bits_of, size, place_of, without, mentions, registers_of}
use Rattle.station.specs.declared.Operation.TheVariants.{Idle}
use Rattle.station.specs.declared.Answer.{Answer}
use Rattle.station.specs.declared.Answer.TheVariants.{Refused, Opened, Done}
use Rattle.bits.specs.Bits.{bit, number_of}
use Rattle.bits.specs.Values.{is_below_lem, is_above, in_range, encode, decode}
use Rattle.station.specs.Calls.{State, cut_to, numbers_in, steps_of, unless, is_long, is_underway, is_read, is_gathered, is_allowed, own_bit, other_bit, settings_bit, settings_byte, written_byte, gathered_bit, gather, opening}
use Rattle.board.specs.Board.{Cells, Gives, bits_in, must_read, World, Call, BeginRead, BeginWrite, Confirm, Abandon, put, answers, last_where, reached, after, opened, whole_read, whole_write}
use Rattle.board.specs.Demand.{Opening, world_after, due_after, writes_of, Work, EqualBoards}
use Rattle.board.specs.Obedient.{Obedient}
use Rattle.board.specs.Stops.{left_by}
use Rattle.board.specs.Lost.{Agree, opened_on}
use Rattle.board.proofs.Demand3.{demand-3}
use Rattle.board.proofs.Lost.{as-it-is, power-lost}
use Rattle.board.proofs.Passed.{passed, world-passed}
use Rattle.board.proofs.Scoring.{scoring, scoring-sound}

-- ── an opening ──

-- score 0x734, row 5, seat 12; the status register's unused bits are not zero
abbrev power : List ℕ
power = 0x07 ∷ 0x34 ∷ 0x5C ∷ 0x7F ∷ 0x00 ∷ []

abbrev pub lent : State
lent = record { kept = replicate 5 0; marks = replicate 6 0; operation = Idle }

accepted : (opening sound scoring power lent).answer ≡ Opened
unfolding unless is_long register_count variable_count scoring
accepted = rw scoring-sound

-- of the five registers one at a time
below-five : (P : ℕ → Type 0) → P 0 → P 1 → P 2 → P 3 → P 4 → (r : ℕ) → r < 5 → P r
below-five P at-0 at_1 at-2 at-3 at-4 zero h = at-0
below-five P at-0 at_1 at-2 at-3 at-4 (suc zero) h = at_1
below-five P at-0 at_1 at-2 at-3 at-4 (suc (suc zero)) h = at-2
below-five P at-0 at_1 at-2 at-3 at-4 (suc (suc (suc zero))) h = at-3
below-five P at-0 at_1 at-2 at-3 at-4 (suc (suc (suc (suc zero)))) h = at-4
below-five P at-0 at_1 at-2 at-3 at-4 (suc (suc (suc (suc (suc r))))) h = absurd (omega arith)

power-numbers : (r : ℕ) → r < register_count scoring → get_or power r 0 < 2 ^ register_width scoring r
unfolding register_count register_width scoring
power-numbers = below-five (λ r. get_or power r 0 < 2 ^ register_width scoring r) (omega arith) (omega arith) (omega arith) (omega arith) (omega arith)

pub start : Opening scoring power
start = record { lent = lent; accepted = accepted; numbers = power-numbers }

-- ── the plain variables are the score, the row and the seat ──

below-three : (P : ℕ → Type 0) → P 0 → P 1 → P 2 → (v : ℕ) → v < 3 → P v
below-three P at-0 at_1 at-2 zero h = at-0
below-three P at-0 at_1 at-2 (suc zero) h = at_1
below-three P at-0 at_1 at-2 (suc (suc zero)) h = at-2
below-three P at-0 at_1 at-2 (suc (suc (suc v))) h = absurd (not-suc-le-zero (le_of_suc-le-suc (le_of_suc-le-suc (le_of_suc-le-suc h))))

pub plain : (v : ℕ) → v < 3 → Plain scoring v
unfolding scoring variable_count is_volatile is_trigger variable_has joined down_from bits_of
plain v h =
    record {
      exists = omega arith;
      steady = below-three (λ u. is_volatile scoring u ≡ false) refl refl refl v h;
      quiet = elim [
        | reading ↦ below-three (λ u. is_trigger scoring reading u ≡ false) refl refl refl v h
        | writing ↦ below-three (λ u. is_trigger scoring writing u ≡ false) refl refl refl v h
      ];
      whole = elim [
        | reading ↦ below-three (λ u. variable_has scoring reading u ≡ true) refl refl refl v h
        | writing ↦ below-three (λ u. variable_has scoring writing u ≡ true) refl refl refl v h
      ];
      same_bits = below-three (λ u. bits_of scoring reading u ≡ bits_of scoring writing u) refl refl refl v h;
    }

-- two are volatile, and the last can only be written
only_these : (v : ℕ) → Plain scoring v → v < 3
unfolding scoring variable_count is_volatile variable_has
only_these zero p = omega arith
only_these (suc zero) p = omega arith
only_these (suc (suc zero)) p = omega arith
only_these (suc (suc (suc zero))) p = absurd (true≢false p.steady)
only_these (suc (suc (suc (suc zero)))) p = absurd (true≢false p.steady)
only_these (suc (suc (suc (suc (suc zero))))) p = absurd (false≢true (p.whole reading))
only_these (suc (suc (suc (suc (suc (suc v)))))) p = let h = p.exists in absurd (omega arith)

-- ── one mask for both parts, and power-on values that obey: the premise of reading back ──

-- three registers have both parts; the fourth is only read, with a bit fixed at 0, the fifth only written, with seven
alike : (bit_of : Part → ℕ → ℕ → Bool) → ((b : ℕ) → bit_of reading 0 b ≡ bit_of writing 0 b) → ((b : ℕ) → bit_of reading 1 b ≡ bit_of writing 1 b)
    → ((b : ℕ) → bit_of reading 2 b ≡ bit_of writing 2 b) → (r b : ℕ) → r < register_count scoring
    → register_has scoring reading r ≡ true → register_has scoring writing r ≡ true → bit_of reading r b ≡ bit_of writing r b
unfolding scoring register_count register_has
alike bit_of at-0 at_1 at-2 r b h =
    below-five (λ r. register_has scoring reading r ≡ true → register_has scoring writing r ≡ true → bit_of reading r b ≡ bit_of writing r b)
    (λ has has'. at-0 b) (λ has has'. at_1 b) (λ has has'. at-2 b) (λ has has'. absurd (false≢true has')) (λ has has'. absurd (false≢true has)) r h

obedient : Obedient scoring power
unfolding scoring register_count register_has is_dot is_fixed is_one obeys
obedient =
    record {
      same-dots = alike (is_dot scoring) (λ b. refl) (λ b. refl) (λ b. refl);
      same-fixed = alike (is_fixed scoring) (λ b. refl) (λ b. refl) (λ b. refl);
      same-ones = alike (is_one scoring) (λ b. refl) (λ b. refl) (λ b. refl);
      at-power_on = elim [
        | reading ↦ below-five (λ r. register_has scoring reading r ≡ true → obeys scoring reading r (get_or power r 0) ≡ true)
            (λ has. refl) (λ has. refl) (λ has. refl) (λ has. refl) (λ has. absurd (false≢true has))
        | writing ↦ below-five (λ r. register_has scoring writing r ≡ true → obeys scoring writing r (get_or power r 0) ≡ true)
            (λ has. refl) (λ has. refl) (λ has. refl) (λ has. absurd (false≢true has)) (λ has. refl)
      ];
    }

-- so the score at power-on is read back by the law
due-at_first : due_after start [] 0 ≡ Gives (pos 0x734)
unfolding start scoring after cut_to numbers_in unless is_long must_read bits_in decode kind_of joined down_from bits_of size place_of register_count variable_count bit number_of
due-at_first = refl

read-by_law : (after sound scoring (whole_read 0 (7 ∷ 7 ∷ [])) (world_after start [])).answer ≡ Done (pos 0x734) (steps_of scoring reading 0)
unfolding start scoring after registers_of mentions without joined down_from bits_of
read-by_law = (demand-3 scoring power).reads-back start [] 0 (pos 0x734) (7 ∷ 7 ∷ []) obedient (plain 0 (omega arith)) refl due-at_first refl

-- ── two boards ──

-- the values of one board, by variable; 7 is what each confirmation of a write brings, and is ignored
abbrev valued : (score row seat : ℕ) → ℕ → ℤ
valued score row seat zero = pos score
valued score row seat (suc zero) = pos row
valued score row seat (suc (suc v)) = pos seat

abbrev sevens : ℕ → List ℕ
sevens zero = 7 ∷ 7 ∷ []
sevens (suc v) = 7 ∷ []

steps : (v : ℕ) → v < 3 → length (sevens v) ≡ steps_of scoring writing v
unfolding scoring registers_of mentions without joined down_from bits_of
steps = below-three (λ v. length (sevens v) ≡ steps_of scoring writing v) refl refl refl

work : (score row seat : ℕ) (order : List ℕ) → ((v : ℕ) → v < 3 → Among v order) → ((v : ℕ) → Among v order → v < 3)
    → ((v : ℕ) → v < 3 → in_range (kind_of scoring v) (size scoring writing v) (valued score row seat v) ≡ true)
    → Work scoring (valued score row seat) sevens order
work score row seat order every only fits =
    record {
      every = λ v p. every v (only_these v p);
      only = λ v here. plain v (only v here);
      fits = λ v p. fits v (only_these v p);
      enough = λ v p. steps v (only_these v p);
    }

-- score 0xABC, row 3, seat 9, in that order; and score 0xABD with the same row and seat, in another order
first-work : Work scoring (valued 0xABC 3 9) sevens (0 ∷ 1 ∷ 2 ∷ [])
unfolding scoring in_range kind_of size joined down_from bits_of
first-work =
    work 0xABC 3 9 (0 ∷ 1 ∷ 2 ∷ []) (below-three (λ v. Among v (0 ∷ 1 ∷ 2 ∷ [])) (inl refl) (inr (inl refl)) (inr (inr (inl refl)))) in_order
    (below-three (λ v. in_range (kind_of scoring v) (size scoring writing v) (valued 0xABC 3 9 v) ≡ true) refl refl refl)
  where
    in_order : (v : ℕ) → Among v (0 ∷ 1 ∷ 2 ∷ []) → v < 3
    in_order v (inl e) = omega arith
    in_order v (inr (inl e)) = omega arith
    in_order v (inr (inr (inl e))) = omega arith
    in_order v (inr (inr (inr e))) = absurd e

second-work : Work scoring (valued 0xABD 3 9) sevens (2 ∷ 0 ∷ 1 ∷ [])
unfolding scoring in_range kind_of size joined down_from bits_of
second-work =
    work 0xABD 3 9 (2 ∷ 0 ∷ 1 ∷ []) (below-three (λ v. Among v (2 ∷ 0 ∷ 1 ∷ [])) (inr (inl refl)) (inr (inr (inl refl))) (inl refl)) in_order
    (below-three (λ v. in_range (kind_of scoring v) (size scoring writing v) (valued 0xABD 3 9 v) ≡ true) refl refl refl)
  where
    in_order : (v : ℕ) → Among v (2 ∷ 0 ∷ 1 ∷ []) → v < 3
    in_order v (inl e) = omega arith
    in_order v (inr (inl e)) = omega arith
    in_order v (inr (inr (inl e))) = omega arith
    in_order v (inr (inr (inr e))) = absurd e

abbrev first_calls : List Call
first_calls = writes_of (valued 0xABC 3 9) sevens (0 ∷ 1 ∷ 2 ∷ [])

abbrev second_calls : List Call
second_calls = writes_of (valued 0xABD 3 9) sevens (2 ∷ 0 ∷ 1 ∷ [])

-- by the theorem they end unequal, since the values are
boards-differ : EqualBoards scoring (world_after start first_calls) (world_after start second_calls) → ⊥
boards-differ same =
    let e = ((demand-3 scoring power).two-boards start start _ _ _ _ _ _ first-work second-work).0 same 0 (plain 0 (omega arith)) in
    unlike (ap nat_abs e)
  where
    unlike : ◌≡◌ {A = ℕ} 0xABC 0xABD → ⊥
    unlike e = omega arith

-- ── and by computation ──

unfoldable pub run : List Call → World
run calls = after passed scoring calls (opened passed scoring power lent)

pub run_is : (calls : List Call) → world_after start calls ≡ run calls
unfolding run start
run_is calls = world-passed scoring scoring-sound start calls

-- the cells of the five registers
abbrev pub five_cells : Cells → List ℕ
five_cells cells = cells 0 ∷ cells 1 ∷ cells 2 ∷ cells 3 ∷ cells 4 ∷ []

left : List Call → List ℕ
left calls = five_cells (world_after start calls).cells

boards-are : (left first_calls ∷ left second_calls ∷ []) ≡ (0x0A ∷ 0xBC ∷ 0x39 ∷ 0x7F ∷ 0x00 ∷ []) ∷ (0x0A ∷ 0xBD ∷ 0x39 ∷ 0x7F ∷ 0x00 ∷ []) ∷ []
unfolding left run scoring writes_of after cut_to numbers_in unless is_long is_underway is_read is_gathered is_allowed is_below_lem is_above in_range encode decode variable_count register_count register_width register_has parameter_of offset_of is_dot is_one kind_of variable_has joined down_from bits_of size place_of without mentions registers_of bit number_of own_bit other_bit settings_bit settings_byte written_byte gathered_bit gather put answers last_where reached obeys
boards-are =
    ap₂ (λ (w u : World). five_cells w.cells ∷ five_cells u.cells ∷ []) (run_is first_calls) (run_is second_calls)

-- the score at power-on; the accident, a stop between its two registers, whatever became of the second; the seat after
-- the row's write was abandoned; the score when it was written again
abbrev stopped : Bool → List Call
stopped performed = BeginWrite 0 (pos 0x123) ∷ Confirm 7 ∷ Abandon performed ∷ []

told : List Answer
told =
    (world_after start (whole_read 0 (7 ∷ 7 ∷ []))).answer
    ∷ (world_after start (stopped true ++ (BeginRead 0 ∷ []))).answer
    ∷ (world_after start (stopped false ++ (BeginRead 0 ∷ []))).answer
    ∷ (world_after start (BeginWrite 1 (pos 9) ∷ Abandon true ∷ whole_read 2 (7 ∷ []))).answer
    ∷ (world_after start (stopped true ++ whole_write 0 (pos 0x456) (7 ∷ 7 ∷ []) ++ whole_read 0 (7 ∷ 7 ∷ []))).answer
    ∷ []

ran : List Answer
ran =
    (run (whole_read 0 (7 ∷ 7 ∷ []))).answer
    ∷ (run (stopped true ++ (BeginRead 0 ∷ []))).answer
    ∷ (run (stopped false ++ (BeginRead 0 ∷ []))).answer
    ∷ (run (BeginWrite 1 (pos 9) ∷ Abandon true ∷ whole_read 2 (7 ∷ []))).answer
    ∷ (run (stopped true ++ whole_write 0 (pos 0x456) (7 ∷ 7 ∷ []) ++ whole_read 0 (7 ∷ 7 ∷ []))).answer
    ∷ []

told_is : told ≡ ran
unfolding told ran
told_is =
    rw (
      run_is (whole_read 0 (7 ∷ 7 ∷ [])),
      run_is (stopped true ++ (BeginRead 0 ∷ [])),
      run_is (stopped false ++ (BeginRead 0 ∷ [])),
      run_is (BeginWrite 1 (pos 9) ∷ Abandon true ∷ whole_read 2 (7 ∷ [])),
      run_is (stopped true ++ whole_write 0 (pos 0x456) (7 ∷ 7 ∷ []) ++ whole_read 0 (7 ∷ 7 ∷ [])),
    )

ran-is : ran ≡ Done (pos 0x734) 2 ∷ Refused 28 ∷ Refused 28 ∷ Done (pos 12) 1 ∷ Done (pos 0x456) 2 ∷ []
unfolding ran run scoring after cut_to numbers_in unless is_long is_underway is_read is_gathered is_allowed is_below_lem is_above in_range encode decode variable_count register_count register_width register_has parameter_of offset_of is_dot is_one kind_of variable_has joined down_from bits_of size place_of without mentions registers_of bit number_of own_bit other_bit settings_bit settings_byte written_byte gathered_bit gather put answers last_where reached obeys
ran-is = refl

-- ── power lost between the two registers of a score: what was 0x123 and was to be 0x456 reads as neither ──

abbrev pub lost_calls : List Call
lost_calls = whole_write 0 (pos 0x123) (7 ∷ 7 ∷ []) ++ (BeginWrite 0 (pos 0x456) ∷ Confirm 7 ∷ [])

abbrev pub lost_cells : Cells
lost_cells = left_by scoring false (world_after start lost_calls)

lost-are : five_cells lost_cells ≡ 0x04 ∷ 0x23 ∷ 0x5C ∷ 0x7F ∷ 0x00 ∷ []
unfolding run scoring after cut_to numbers_in unless is_long is_underway is_read is_gathered is_allowed is_below_lem is_above in_range encode decode variable_count register_count register_width register_has parameter_of offset_of is_dot is_one kind_of variable_has joined down_from bits_of size place_of without mentions registers_of bit number_of own_bit other_bit settings_bit settings_byte written_byte gathered_bit gather put answers last_where reached obeys
lost-are = ap (λ (w : World). five_cells (left_by scoring false w)) (run_is lost_calls)

-- four registers are read back; for the fifth, which cannot be read, the station lends a number that it does not hold
abbrev pub again_power : List ℕ
again_power = 0x04 ∷ 0x23 ∷ 0x5C ∷ 0x7F ∷ 0x01 ∷ []

pub agree : Agree scoring lost_cells again_power
unfolding scoring register_count register_has
agree =
    below-five (λ r. register_has scoring reading r ≡ true → get_or again_power r 0 ≡ lost_cells r) (λ has. is 0) (λ has. is 1) (λ has. is 2) (λ has. is 3)
    (λ has. absurd (false≢true has))
  where
    is : (r : ℕ) → get_or (0x04 ∷ 0x23 ∷ 0x5C ∷ 0x7F ∷ 0x00 ∷ []) r 0 ≡ get_or (five_cells lost_cells) r 0
    is r = ap (λ (cells : List ℕ). get_or cells r 0) (sym lost-are)

again-long : is_long scoring lent ≡ true
unfolding is_long scoring register_count variable_count
again-long = refl

again-enough : register_count scoring ≤ 5
unfolding scoring register_count
again-enough = omega arith

again-numbers : (r : ℕ) → r < register_count scoring → get_or again_power r 0 < 2 ^ register_width scoring r
unfolding scoring register_count register_width
again-numbers = below-five (λ r. get_or again_power r 0 < 2 ^ register_width scoring r) (omega arith) (omega arith) (omega arith) (omega arith) (omega arith)

pub again : Opening scoring again_power
again = record { lent = lent; accepted = (power-lost start).opens-again again_power lent again-enough again-long; numbers = again-numbers }

unfoldable pub run_again : List Call → World
run_again calls = after passed scoring calls (opened passed scoring again_power lent)

-- on the board as it is every call is answered as if its cells were the numbers lent
pub told-again : (calls : List Call) → (after sound scoring calls (opened_on again lost_cells)).answer ≡ (run_again calls).answer
unfolding run_again again
told-again calls =
    ap (λ (w : World). w.answer) ((as-it-is again).unseen lost_cells agree calls).same
    ∙ ap (λ (w : World). w.answer) (world-passed scoring scoring-sound again calls)

neither : (after sound scoring (whole_read 0 (7 ∷ 7 ∷ [])) (opened_on again lost_cells)).answer ≡ Done (pos 0x423) 2
unfolding run_again scoring after cut_to numbers_in unless is_long is_underway is_read is_gathered is_allowed is_below_lem is_above in_range encode decode variable_count register_count register_width register_has parameter_of offset_of is_dot is_one kind_of variable_has joined down_from bits_of size place_of without mentions registers_of bit number_of own_bit other_bit settings_bit settings_byte written_byte gathered_bit gather put answers last_where reached obeys
neither = told-again (whole_read 0 (7 ∷ 7 ∷ []))
