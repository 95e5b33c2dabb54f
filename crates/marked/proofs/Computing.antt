-- What computes when a case does: all definitions between a text and its verdict, and between a call and its answer,
-- each group under one name and all of them under `computing`. To unfold a name is to unfold what its own line names.
-- Assumes nothing.
use Rattle.bits.specs.Bits.{bit, number_of}
use Rattle.bits.specs.Values.{is_below_lem, is_above, encode, decode}
use Rattle.token.specs.Bytes.{same, begins, one_of, within, first_true, run_from}
use Rattle.token.specs.Gap.{is_blank, gap_from}
use Rattle.token.specs.Number.{digit_of, is_digit, value_from, prefixed, digits_of}
use Rattle.token.specs.Scan.{is_bit, bad_token, name_token, name_from, number_token, number_from, bits_token, bits_from, sign_token, sign_here, sign_from, token_by, token_from, scan_from, scan_rest, scan_at}
use Rattle.token.specs.Sign.{long_signs, is_sign_byte, long_sign, sign_number, longest_sign, sign_width}
use Rattle.token.specs.Word.{is_letter, is_name_byte, reserved, word_of}
use Rattle.expression.specs.Expression.{operator_of, closed_read, rest_with, chain_of, operand_at, chain_at, expression_at}
use Rattle.expression.specs.Value.{within_range, combined_by}
use Rattle.syntax.specs.Attribute.{no_behaviours, made_volatile, made_trigger, trigger_after, behaviour_after, behaviour_turn, more_behaviours, int_after, type_after}
use Rattle.syntax.specs.Heading.{head_after}
use Rattle.syntax.specs.Sizes.{long_name}
use Rattle.syntax.specs.Items.{unless_full, closed_by, item_turn, more_items, items_after}
use Rattle.syntax.specs.Loop.{loop_with}
use Rattle.syntax.specs.Offset.{step_in}
use Rattle.syntax.specs.Parameter.{stored, width_after, range_to, range_after, next_range, more_ranges, ranges_after, set_after, parameter_after}
use Rattle.syntax.specs.Piece.{filed, range_piece, more_bits, bracket_after, named_piece, piece_after, more_pieces, pieces_after}
use Rattle.syntax.specs.Reader.{unexpected, too_many, name_in, seen_at, place_at, fixed_after, extra_after, token_at, token_after, bits_after, name_after, number_after, enclosed_after}
use Rattle.syntax.specs.Register.{worth_in, valued_by, up_one, up_if, no_masks, is_masked, counted, no_port, mark_after, value_after, offset_after, port_after, mask_after, attribute_after, mask_turn, more_masks, second_marked, rest_after, register_after}
use Rattle.syntax.specs.Text.{begins as begins-of-text, moved_to, counted as counted-of-text, taken, head_with, parameter_with, more_parameters, register_with, variable_with, declaration_with, more_declarations, parameters_with, declarations_with, reading_with, listed, reading, remade}
use Rattle.syntax.specs.Variable.{second_marked as second_marked-of-variable, second_after, rest_after as rest_after-of-variable, variable_after}
use Rattle.tables.specs.Every.{every, some, first_of}
use Rattle.tables.specs.Marks.{down_from, joined, has, meets, distinct}
use Rattle.bits.specs.Widths.{is_width}
use Rattle.tables.specs.Rules.{as_wide, width_kept, ranges_fit, parameter_fault, offset_in, placed, told_apart, place_taken, register_fault, on_dots, piece_fits, part_maps, width_fits, type_fits, volatile_fits, own_fault, mapped_before, trigger_shared, variable_fault, covered}
use Rattle.tables.specs.View.{register_count, register_width, register_has, parameter_of, offset_of, is_dot, is_one, obeys, variable_count, kind_of, variable_has, bits_of, size, place_of, without, mentions, registers_of}
use Rattle.rules.specs.Fault.{fault_if, fault_of, only, or_else}
use Rattle.rules.specs.Lists.{high_in, piece_named, unknown_in, piece_words, pieces_on, all_have, list_for, part_words}
use Rattle.rules.specs.Mask.{bits_held, elements, mask_of, all_dots, mask_at}
use Rattle.rules.specs.Modifiers.{are_paired, at_most_one}
use Rattle.rules.specs.Names.{stands_at, is_named, held_of, found_below, found_in, is_declared, declared_before}
use Rattle.rules.specs.Parameter.{judge_device, parameter_entry, added_parameter, judge_parameter}
use Rattle.rules.specs.Register.{natural_in, has_part_lem, masks_long, masks_kept, port_of, part_mask, part_entry, port_found, part_words as part_words-of-register, register_entry, unknown_port, bad_offset, register_written, added_register, judge_register}
use Rattle.rules.specs.State.{unless_stopped, stopped, unless_broken, with_parameters, with_registers, with_variables}
use Rattle.rules.specs.Variable.{flag_of, triggers, head_words, with_variable, bad_behaviours, lowest, name_fault, early_fault, late_number, added_variable, judge_variable}
use Rattle.rules.specs.Words.{word_of as word_of-of-words, written, appended}
use Rattle.loader.specs.Judge.{judge}
use Rattle.loader.specs.Load.{is_short, is_long, beginning, judged, first_uncovered, judged_as, once_read, verdict_of, is_accepted, left_by, laid_over, load_of}
use Rattle.station.specs.Calls.{cut_to, numbers_in, unless, is_long as is_long-of-calls, is_underway, is_read, is_gathered, is_allowed, own_bit, other_bit, settings_bit, settings_byte, written_byte, gathered_bit, gather}
use Rattle.board.specs.Board.{put, answers, last_where, reached}
use Rattle.marked.specs.Marked.{deep, registers_then, many, marked, blank, answers_to}

-- numbers as bits, and values
unfoldable pub numbers : Unit {0}
unfolding bit number_of is_below_lem is_above encode decode
numbers = tt

-- tokens
unfoldable pub tokens : Unit {0}
unfolding same begins one_of within first_true run_from is_blank gap_from digit_of is_digit value_from prefixed digits_of is_bit bad_token name_token name_from number_token number_from bits_token bits_from sign_token sign_here sign_from token_by token_from scan_from scan_rest scan_at long_signs is_sign_byte long_sign sign_number longest_sign sign_width is_letter is_name_byte reserved word_of
tokens = tt

-- offset expressions
unfoldable pub offsets : Unit {0}
unfolding operator_of closed_read rest_with chain_of operand_at chain_at expression_at within_range combined_by
offsets = tt

-- what is read
unfoldable pub declarations : Unit {0}
unfolding no_behaviours made_volatile made_trigger trigger_after behaviour_after behaviour_turn more_behaviours int_after type_after head_after loop_with step_in too_many stored width_after range_to range_after next_range unless_full closed_by item_turn more_items items_after more_ranges ranges_after set_after parameter_after filed range_piece more_bits named_piece bracket_after piece_after more_pieces pieces_after unexpected name_in long_name extra_after token_at token_after bits_after enclosed_after seen_at place_at fixed_after name_after number_after worth_in valued_by up_one up_if no_masks is_masked counted no_port mark_after value_after offset_after port_after mask_after attribute_after mask_turn more_masks second_marked rest_after register_after begins-of-text moved_to counted-of-text taken head_with parameter_with more_parameters register_with variable_with declaration_with more_declarations parameters_with declarations_with reading_with listed reading remade second_marked-of-variable second_after rest_after-of-variable variable_after
declarations = tt

-- the words of tables, and the rules that they can break
unfoldable pub entries : Unit {0}
unfolding every some first_of down_from joined has meets distinct is_width as_wide width_kept ranges_fit parameter_fault offset_in placed told_apart place_taken register_fault on_dots piece_fits part_maps width_fits type_fits volatile_fits own_fault mapped_before trigger_shared variable_fault covered register_count register_width register_has parameter_of offset_of is_dot is_one variable_count kind_of variable_has bits_of size place_of without mentions registers_of
entries = tt

-- the rules of one declaration
unfoldable pub rules : Unit {0}
unfolding fault_if fault_of only or_else high_in piece_named unknown_in piece_words pieces_on all_have list_for part_words bits_held elements mask_of all_dots mask_at are_paired at_most_one stands_at is_named held_of found_below found_in is_declared declared_before judge_device parameter_entry added_parameter judge_parameter natural_in has_part_lem masks_long masks_kept port_of part_mask part_entry port_found part_words-of-register register_entry unknown_port bad_offset register_written added_register judge_register unless_stopped stopped unless_broken with_parameters with_registers with_variables flag_of triggers head_words with_variable bad_behaviours lowest name_fault early_fault late_number added_variable judge_variable word_of-of-words written appended
rules = tt

-- a whole text
unfoldable pub loading : Unit {0}
unfolding judge is_short is_long beginning judged first_uncovered judged_as once_read verdict_of is_accepted left_by laid_over load_of
loading = tt

-- the calls of a station, and the board before it
unfoldable pub calls : Unit {0}
unfolding cut_to numbers_in unless is_long-of-calls is_underway is_read is_gathered is_allowed own_bit other_bit settings_bit settings_byte written_byte gathered_bit gather put answers last_where reached obeys
calls = tt

-- the table
unfoldable pub texts : Unit {0}
unfolding deep registers_then many marked blank answers_to
texts = tt

unfoldable pub computing : Unit {0}
unfolding numbers tokens offsets declarations entries rules loading calls texts
computing = tt
