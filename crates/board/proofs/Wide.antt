-- Registers of 16 and of 32 bits: their tables are sound, the premises of demand 3 are met, and bits above a width
-- count as 0 where a number is lent, confirmed or kept.
-- Assumes nothing.
use Prim.Native.Nat.{ℕ, zero, suc, ◌<◌, ◌^◌}
use mathlib.Core.Path.{◌≡◌, refl}
use mathlib.Core.Bool.{true, false}
use mathlib.Core.List.{List, [], ◌∷◌, ◌++◌}
use native.Mathlib.Omega.{arith}
use lib.IntN.{pos, negsuc}
use lib.ListN.{get_or, replicate}
use Rattle.bits.specs.Bits.{bit, number_of}
use Rattle.bits.specs.Widths.{is_width}
use Rattle.bits.specs.Values.{is_below_lem, is_above, encode, decode}
use Rattle.tables.specs.declared.Part.TheVariants.{Read as reading, Write as writing}
use Rattle.tables.specs.Every.{every, some, zeros_front}
use Rattle.tables.specs.Marks.{joined, down_from, has, meets, distinct}
use Rattle.tables.specs.Rules.{as_wide, width_kept, ranges_fit, parameter_fault, parameter_shape, offset_in, placed, place_taken, register_fault, register_part_shape, register_shape, on_dots, piece_fits, part_maps, width_fits, type_fits, volatile_fits, own_fault, variable_part_shape, variable_shape, mapped_before, trigger_shared, variable_fault, covered}
use Rattle.tables.specs.Sound.{tables_fit, rest_zero, shapes_fit, rules_kept}
use Rattle.tables.specs.Sound as S
use Rattle.tables.specs.View.{Tables, sound, Plain, is_volatile, is_trigger, register_count, register_width, register_has, parameter_of, offset_of, is_dot, is_fixed, is_one, obeys, variable_count, kind_of, variable_has, bits_of, size, place_of, without, mentions, registers_of}
use Rattle.station.specs.declared.Operation.{Operation}
use Rattle.station.specs.declared.Operation.TheVariants.{Idle, Reading}
use Rattle.station.specs.declared.Answer.TheVariants.{Opened, Offer as Offered, Done}
use Rattle.station.specs.Calls.{State, cut_to, numbers_in, steps_of, unless, is_long, is_underway, is_read, is_gathered, is_allowed, own_bit, other_bit, settings_bit, settings_byte, written_byte, gathered_bit, gather, opening, begin_write, confirm}
use Rattle.board.specs.Board.{Gives, bits_in, must_read, after, whole_read}
use Rattle.board.specs.Demand.{Opening, world_after, due_after}
use Rattle.board.specs.Obedient.{Obedient}
use Rattle.board.proofs.Demand3.{demand-3}
use Rattle.board.proofs.Entries.{part, piece, plainly}

-- a port of this many bits, at offset 0 alone; a register of this many, whose two parts are alike
abbrev port : ℕ → List ℕ
port width = 0 ∷ 1 ∷ width ∷ 1 ∷ 0 ∷ 0 ∷ replicate 30 0

abbrev both : ℕ → List ℕ → List ℕ
both width words = 0 ∷ 1 ∷ width ∷ words ++ words

-- '01..............' on a port of 16 bits, and all dots on one of 32
unfoldable wide : Tables
wide =
    record {
      parameters = 2 ∷ port 16 ++ port 32 ++ replicate 504 0;
      registers = 2 ∷ both 16 (part 0 0x3FFF 0xC000 0x4000) ++ both 32 (1 ∷ 1 ∷ 0 ∷ 0xFFFFFFFF ∷ 0 ∷ 0 ∷ []) ++ replicate 930 0;
      variables = 2 ∷ plainly 0 14 (piece 0 13 0) ++ plainly 1 32 (piece 1 31 0) ++ replicate 7434 0;
    }

is-sound : sound wide ≡ true
unfolding bit sound S.sound wide tables_fit rest_zero zeros_front shapes_fit rules_kept every some parameter_shape register_shape register_part_shape variable_shape variable_part_shape parameter_fault is_width width_kept as_wide ranges_fit register_fault placed offset_in place_taken variable_fault own_fault part_maps piece_fits on_dots joined down_from distinct has meets type_fits width_fits volatile_fits mapped_before trigger_shared covered
is-sound = refl

abbrev power : List ℕ
power = 0x4001 ∷ 0xFFFFFFFE ∷ []

abbrev lending : List ℕ → Operation → State
lending kept operation = record { kept = kept; marks = 0 ∷ 0 ∷ []; operation = operation }

-- ── bits above the width ──

-- lent
opened-without : (opening sound wide (0x74001 ∷ 0xFFFFFFFE ∷ []) (lending (0 ∷ 0 ∷ []) Idle)).state.kept ≡ power
unfolding unless is_long register_count variable_count register_width cut_to numbers_in wide
opened-without = rw is-sound

-- confirmed; the fixed bits are compared without them
confirmed-without : (confirm sound wide (lending power (Reading 0 0 0)) 0xFFFF4012).answer ≡ Done (pos 0x12) 1
unfolding unless is_long is_underway is_read is_gathered is_allowed decode register_count variable_count variable_has kind_of joined down_from bits_of size place_of without mentions registers_of bit number_of gathered_bit gather obeys wide
confirmed-without = rw is-sound

-- kept
offered-without : (begin_write sound wide (lending (0xFFFF4001 ∷ 0 ∷ []) Idle) 0 (pos 5)).answer ≡ Offered (record { direction = writing; parameter = 0; offset = 0; byte = 0x4005 })
unfolding unless is_long is_allowed is_below_lem is_above encode register_count register_width variable_count variable_has kind_of parameter_of offset_of is_dot is_one joined down_from bits_of size place_of without mentions registers_of bit number_of own_bit other_bit settings_bit settings_byte written_byte wide
offered-without = rw is-sound

-- ── demand 3 ──

accepted : (opening sound wide power (lending (0 ∷ 0 ∷ []) Idle)).answer ≡ Opened
unfolding unless is_long register_count variable_count wide
accepted = rw is-sound

power-numbers : (r : ℕ) → r < register_count wide → get_or power r 0 < 2 ^ register_width wide r
unfolding register_count register_width wide
power-numbers zero h = omega arith
power-numbers (suc zero) h = omega arith
power-numbers (suc (suc r)) h = absurd (omega arith)

start : Opening wide power
start = record { lent = lending (0 ∷ 0 ∷ []) Idle; accepted = accepted; numbers = power-numbers }

below_two : (P : ℕ → Type 0) → P 0 → P 1 → (r : ℕ) → r < 2 → P r
below_two P at-0 at_1 zero h = at-0
below_two P at-0 at_1 (suc zero) h = at_1
below_two P at-0 at_1 (suc (suc r)) h = absurd (omega arith)

obedient : Obedient wide power
unfolding wide register_count register_has is_dot is_fixed is_one obeys
obedient =
    record {
      same-dots = λ r b h has has'. below_two (λ r. is_dot wide reading r b ≡ is_dot wide writing r b) refl refl r h;
      same-fixed = λ r b h has has'. below_two (λ r. is_fixed wide reading r b ≡ is_fixed wide writing r b) refl refl r h;
      same-ones = λ r b h has has'. below_two (λ r. is_one wide reading r b ≡ is_one wide writing r b) refl refl r h;
      at-power_on = elim [
        | reading ↦ λ r h has. below_two (λ r. obeys wide reading r (get_or power r 0) ≡ true) refl refl r h
        | writing ↦ λ r h has. below_two (λ r. obeys wide writing r (get_or power r 0) ≡ true) refl refl r h
      ];
    }

plain : (v : ℕ) → v < 2 → Plain wide v
unfolding wide variable_count is_volatile is_trigger variable_has joined down_from bits_of
plain v h =
    record {
      exists = omega arith;
      steady = below_two (λ u. is_volatile wide u ≡ false) refl refl v h;
      quiet = elim [
        | reading ↦ below_two (λ u. is_trigger wide reading u ≡ false) refl refl v h
        | writing ↦ below_two (λ u. is_trigger wide writing u ≡ false) refl refl v h
      ];
      whole = elim [
        | reading ↦ below_two (λ u. variable_has wide reading u ≡ true) refl refl v h
        | writing ↦ below_two (λ u. variable_has wide writing u ≡ true) refl refl v h
      ];
      same_bits = below_two (λ u. bits_of wide reading u ≡ bits_of wide writing u) refl refl v h;
    }

-- the number of 32 bits at power-on is read back by the law
due-at_first : due_after start [] 1 ≡ Gives (negsuc 1)
unfolding start wide after cut_to numbers_in unless is_long must_read bits_in decode kind_of joined down_from bits_of size place_of register_count variable_count bit number_of
due-at_first = refl

read-by_law : (after sound wide (whole_read 1 (0 ∷ [])) (world_after start [])).answer ≡ Done (negsuc 1) (steps_of wide reading 1)
unfolding start wide after registers_of mentions without joined down_from bits_of
read-by_law = (demand-3 wide power).reads-back start [] 1 (negsuc 1) (0 ∷ []) obedient (plain 1 (omega arith)) refl due-at_first refl
