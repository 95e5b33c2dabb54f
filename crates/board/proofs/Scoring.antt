-- Tables of full size with the parameters, registers and variables of boards/scoring.devil, written out by hand; the
-- names are recorded at place 0. Refusal 20's own test accepts them.
-- Assumes nothing.
use mathlib.Core.Path.{◌≡◌, refl}
use mathlib.Core.Bool.{true}
use mathlib.Core.List.{◌∷◌, ◌++◌}
use lib.ListN.{replicate}
use Rattle.bits.specs.Bits.{bit}
use Rattle.bits.specs.Widths.{is_width}
use Rattle.tables.specs.Every.{every, some, zeros_front}
use Rattle.tables.specs.Marks.{joined, down_from, has, meets, distinct}
use Rattle.tables.specs.Rules.{as_wide, width_kept, ranges_fit, parameter_fault, parameter_shape, offset_in, placed, place_taken, register_fault, register_part_shape, register_shape, on_dots, piece_fits, part_maps, width_fits, type_fits, volatile_fits, own_fault, variable_part_shape, variable_shape, mapped_before, trigger_shared, variable_fault, covered}
use Rattle.tables.specs.Sound.{tables_fit, rest_zero, shapes_fit, rules_kept}
use Rattle.tables.specs.Sound as S
use Rattle.tables.specs.View.{Tables, sound}
use Rattle.board.proofs.Entries.{part, no_part, register, piece, pieces, no_pieces, variable, parameter, same_parts, plainly}

unfoldable pub scoring : Tables
scoring =
    record {
      parameters = parameter 3;
      registers = 5
          ∷ same_parts 0 0x0F 0xF0 0
          ++ same_parts 1 0xFF 0 0
          ++ same_parts 2 0xFF 0 0
          ++ register (part 3 0x7C 0x80 0) no_part
          ++ register no_part (part 3 0x01 0xFE 0)
          ++ replicate 885 0;
      variables = 6
          ∷ plainly 0 12 (pieces 0 3 0 1 7 0)
          ++ plainly 0 4 (piece 2 7 4)
          ++ plainly 0 4 (piece 2 3 0)
          ++ variable 2 1 1 (piece 3 6 6) no_pieces
          ++ variable 0 4 1 (piece 3 5 2) no_pieces
          ++ variable 2 1 0 no_pieces (piece 4 0 0)
          ++ replicate 7198 0;
    }

pub scoring-sound : sound scoring ≡ true
unfolding bit sound S.sound scoring tables_fit rest_zero zeros_front shapes_fit rules_kept every some parameter_shape register_shape register_part_shape variable_shape variable_part_shape parameter_fault is_width width_kept as_wide ranges_fit register_fault placed offset_in place_taken variable_fault own_fault part_maps piece_fits on_dots joined down_from distinct has meets type_fits width_fits volatile_fits mapped_before trigger_shared covered
scoring-sound = refl
