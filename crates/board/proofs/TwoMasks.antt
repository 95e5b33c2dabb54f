-- The premise of reading back is needed: a register whose two masks differ is written and then stops every read, though
-- its variable is plain and its power-on value obeys the read mask.
-- Assumes nothing.
use Prim.Native.Nat.{ℕ, zero, suc, ◌<◌, ◌^◌}
use mathlib.Core.Path.{◌≡◌, refl, ap}
use mathlib.Core.Bool.{true}
use mathlib.Core.List.{List, [], ◌∷◌, ◌++◌}
use native.Mathlib.Omega.{arith}
use lib.IntN.{pos}
use lib.ListN.{get_or, replicate}
use Rattle.bits.specs.Bits.{bit, number_of}
use Rattle.bits.specs.Widths.{is_width}
use Rattle.bits.specs.Values.{is_below_lem, is_above, in_range, encode, decode}
use Rattle.tables.specs.declared.Part.TheVariants.{Read as reading, Write as writing}
use Rattle.tables.specs.Every.{every, some, zeros_front}
use Rattle.tables.specs.Marks.{joined, down_from, has, meets, distinct}
use Rattle.tables.specs.Rules.{as_wide, width_kept, ranges_fit, parameter_fault, parameter_shape, offset_in, placed, place_taken, register_fault, register_part_shape, register_shape, on_dots, piece_fits, part_maps, width_fits, type_fits, volatile_fits, own_fault, variable_part_shape, variable_shape, mapped_before, trigger_shared, variable_fault, covered}
use Rattle.tables.specs.Sound.{tables_fit, rest_zero, shapes_fit, rules_kept}
use Rattle.tables.specs.Sound as S
use Rattle.tables.specs.View.{Tables, sound, Plain, is_volatile, is_trigger, register_count, register_width, register_has, parameter_of, offset_of, is_dot, is_one, obeys, variable_count, kind_of, variable_has, bits_of, size, place_of, without, mentions, registers_of}
use Rattle.station.specs.declared.Operation.TheVariants.{Idle}
use Rattle.station.specs.declared.Answer.TheVariants.{Opened, Stopped}
use Rattle.station.specs.Calls.{State, cut_to, numbers_in, unless, is_long, is_underway, is_read, is_gathered, is_allowed, own_bit, other_bit, settings_bit, settings_byte, written_byte, gathered_bit, gather, opening}
use Rattle.board.specs.Board.{Gives, bits_in, must_read, World, Call, put, answers, last_where, reached, after, opened, whole_read, whole_write}
use Rattle.board.specs.Demand.{Opening, world_after, due_after}
use Rattle.board.proofs.Passed.{passed, world-passed}
use Rattle.board.proofs.Entries.{part, register, piece, parameter, plainly}

-- read as '1.......', written as '0.......'
unfoldable two_masks : Tables
two_masks =
    record {
      parameters = parameter 0;
      registers = 1 ∷ register (part 0 0x7F 0x80 0x80) (part 0 0x7F 0x80 0) ++ replicate 945 0;
      variables = 1 ∷ plainly 0 7 (piece 0 6 0) ++ replicate 7493 0;
    }

is-sound : sound two_masks ≡ true
unfolding bit sound S.sound two_masks tables_fit rest_zero zeros_front shapes_fit rules_kept every some parameter_shape register_shape register_part_shape variable_shape variable_part_shape parameter_fault is_width width_kept as_wide ranges_fit register_fault placed offset_in place_taken variable_fault own_fault part_maps piece_fits on_dots joined down_from distinct has meets type_fits width_fits volatile_fits mapped_before trigger_shared covered
is-sound = refl

abbrev power : List ℕ
power = 0x80 ∷ []

abbrev lent : State
lent = record { kept = 0 ∷ []; marks = 0 ∷ []; operation = Idle }

accepted : (opening sound two_masks power lent).answer ≡ Opened
unfolding unless is_long register_count variable_count two_masks
accepted = rw is-sound

power-numbers : (r : ℕ) → r < register_count two_masks → get_or power r 0 < 2 ^ register_width two_masks r
unfolding register_count register_width two_masks
power-numbers zero h = omega arith
power-numbers (suc r) h = absurd (omega arith)

start : Opening two_masks power
start = record { lent = lent; accepted = accepted; numbers = power-numbers }

plain : Plain two_masks 0
unfolding two_masks variable_count is_volatile is_trigger variable_has joined down_from bits_of
plain =
    record {
      exists = omega arith;
      steady = refl;
      quiet = elim [ reading ↦ refl | writing ↦ refl ];
      whole = elim [ reading ↦ refl | writing ↦ refl ];
      same_bits = refl;
    }

-- the power-on value obeys the mask by which it is read, so that it can be read at first
obeys-at_first : obeys two_masks reading 0 0x80 ≡ true
unfolding two_masks obeys
obeys-at_first = refl

abbrev written : List Call
written = whole_write 0 (pos 5) (7 ∷ [])

run : List Call → World
run calls = after passed two_masks calls (opened passed two_masks power lent)

run_is : (calls : List Call) → world_after start calls ≡ run calls
unfolding run start
run_is calls = world-passed two_masks is-sound start calls

-- 5 is due, and the read is stopped
due-is : due_after start written 0 ≡ Gives (pos 5)
unfolding run two_masks after cut_to numbers_in unless is_long is_underway is_read is_gathered is_allowed is_below_lem is_above in_range encode decode variable_count register_count register_width register_has parameter_of offset_of is_dot is_one kind_of variable_has joined down_from bits_of size place_of without mentions registers_of bit number_of own_bit other_bit settings_bit settings_byte written_byte gathered_bit gather put answers last_where reached obeys must_read bits_in
due-is = ap (λ (w : World). must_read two_masks (λ r. get_or power r 0) w.events 0) (run_is written)

read-stopped : (world_after start (written ++ whole_read 0 (7 ∷ []))).answer ≡ Stopped 52 0
unfolding run two_masks after cut_to numbers_in unless is_long is_underway is_read is_gathered is_allowed is_below_lem is_above in_range encode decode variable_count register_count register_width register_has parameter_of offset_of is_dot is_one kind_of variable_has joined down_from bits_of size place_of without mentions registers_of bit number_of own_bit other_bit settings_bit settings_byte written_byte gathered_bit gather put answers last_where reached obeys
read-stopped = ap (λ (w : World). w.answer) (run_is (written ++ whole_read 0 (7 ∷ [])))
