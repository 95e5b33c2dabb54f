-- Refusal 20's test computes: tables of full size are judged by it in seconds.
use Prim.Native.Nat.{ℕ}
use mathlib.Core.Path.{◌≡◌, refl}
use mathlib.Core.Bool.{true, false}
use mathlib.Core.List.{List, ◌∷◌, ◌++◌}
use lib.ListN.{replicate, set}
use Rattle.bits.specs.Bits.{bit}
use Rattle.bits.specs.Widths.{is_width}
use Rattle.tables.specs.Every.{every, some, zeros_front}
use Rattle.tables.specs.Marks.{distinct, down_from, has, joined, meets}
use Rattle.tables.specs.Rules.{as_wide, covered, width_kept, mapped_before, offset_in, on_dots, own_fault, parameter_fault, parameter_shape, part_maps, piece_fits, place_taken, placed, ranges_fit, register_fault, register_part_shape, register_shape, trigger_shared, type_fits, variable_fault, variable_part_shape, variable_shape, volatile_fits, width_fits}
use Rattle.tables.specs.Sound.{rest_zero, rules_kept, shapes_fit, sound, tables_fit}

-- the tables of `device d(base:bit[8] port){register r=base:bit[8];variable v=r:int(8);}`
pub parameters_a : List ℕ
parameters_a = 1 ∷ 9 ∷ 4 ∷ 8 ∷ 1 ∷ replicate 572 0

pub registers_a : List ℕ
registers_a = 1 ∷ 36 ∷ 1 ∷ 8 ∷ 1 ∷ 0 ∷ 0 ∷ 0xFF ∷ 0 ∷ 0 ∷ 1 ∷ 0 ∷ 0 ∷ 0xFF ∷ 0 ∷ 0 ∷ replicate 945 0

abbrev whole_register : List ℕ
whole_register = 1 ∷ 0 ∷ 1 ∷ 0 ∷ 7 ∷ 0 ∷ replicate 21 0

pub variables_a : List ℕ
variables_a = 1 ∷ 59 ∷ 1 ∷ 0 ∷ 8 ∷ 0 ∷ whole_register ++ whole_register ++ replicate 7493 0

pub sound_computes : sound parameters_a registers_a variables_a ≡ true
unfolding bit sound tables_fit rest_zero shapes_fit rules_kept parameters_a registers_a variables_a every some zeros_front parameter_shape parameter_fault is_width width_kept as_wide ranges_fit register_shape register_part_shape register_fault placed offset_in place_taken variable_shape variable_part_shape variable_fault own_fault part_maps piece_fits on_dots joined down_from distinct has meets type_fits width_fits volatile_fits mapped_before trigger_shared covered
sound_computes = refl

-- one word that should be zero, the last of the variables, makes them unsound
pub last-word-counts : sound parameters_a registers_a (set variables_a 7552 1) ≡ false
unfolding bit sound tables_fit rest_zero shapes_fit rules_kept parameters_a registers_a variables_a every some zeros_front parameter_shape parameter_fault is_width width_kept as_wide ranges_fit register_shape register_part_shape register_fault placed offset_in place_taken variable_shape variable_part_shape variable_fault own_fault part_maps piece_fits on_dots joined down_from distinct has meets type_fits width_fits volatile_fits mapped_before trigger_shared covered
last-word-counts = refl
