-- Lines and the calls that they are, computed. Assumes nothing.
use mathlib.Core.List.{List, [], ◌∷◌, map}
use mathlib.Core.Path.{◌≡◌, refl}
use Prim.Native.Nat.{ℕ, ◌-◌, ◌^◌}
use lib.IntN.{negsuc}
use Rattle.token.specs.Bytes.{bytes, same, run_from, begins, within}
use Rattle.token.specs.Number.{digit_of, is_digit}
use Rattle.script.specs.Words.{word_of, rest_of, ahead, words_up_to, words_of}
use Rattle.script.specs.Numbers.{figures_from, figures, number_of, natural, negated, value_of}
use Rattle.script.specs.Patterns.{pattern_of}
use Rattle.units.specs.Lines.{calibration_of}
use Rattle.station.specs.declared.Operation.TheVariants.{Reading}
use Rattle.replay.specs.declared.call.Request.TheVariants.{Open, Write, Calibrated}
use Rattle.replay.specs.declared.call.Call.{Call}
use Rattle.replay.specs.declared.call.Call.TheVariants.{Nothing, Station, Lookup, LendMarks, Hold, Unknown}
use Rattle.replay.specs.Fields.{is_none, only_word, below_of, count_from}
use Rattle.replay.specs.Calls.{chosen, bare_of, with_number, lookup_of, writing, write_of, calibrating, calibrated_of, is_all_lem, amount_of, lent, lend_of, in_hand_lem, held, held_of, holding, hold_of, call_by, is_skipped, call_of}

abbrev asked : List ℕ → Call
asked line = call_of (words_of line)

pub lines :
    map asked
    (bytes "open 0x0A 4294967295"
    ∷ bytes "  write\t0  -2 "
    ∷ bytes "hold read 1 0 0xFF"
    ∷ bytes "lend marks all"
    ∷ bytes "lookup"
    ∷ bytes "; a comment"
    ∷ bytes "read 0 0"
    ∷ bytes "confirm 4294967296"
    ∷ bytes "calibrated 2 3FE0000000000000 4090000000000000"
    ∷ bytes "calibrated 2 3FE000000000000 4090000000000000"
    ∷ [])
    ≡ Station (Open 2)
    ∷ Station (Write 0 (negsuc 1))
    ∷ Hold (Reading 1 0 255)
    ∷ LendMarks (2 ^ 64 - 1)
    ∷ Lookup
    ∷ Nothing
    ∷ Unknown
    ∷ Unknown
    ∷ Station (Calibrated 2 (calibration_of 0x3FE0000000000000 0x4090000000000000))
    ∷ Unknown
    ∷ []
unfolding same run_from begins within digit_of is_digit word_of rest_of ahead words_up_to words_of figures_from figures number_of natural negated value_of is_none only_word below_of count_from chosen bare_of with_number lookup_of writing write_of calibrating calibrated_of pattern_of is_all_lem amount_of lent lend_of in_hand_lem held held_of holding hold_of call_by is_skipped call_of
lines = refl
