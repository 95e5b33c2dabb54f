-- Stations that stop, on the scoring board: each premise is met, and what is said is computed as well.
-- Assumes nothing.
use mathlib.Core.Path.{◌≡◌, refl, ap, ap₂}
use mathlib.Core.Logic.{inl}
use mathlib.Core.Bool.{true}
use mathlib.Core.List.{List, [], ◌∷◌, ◌++◌}
use native.Mathlib.Omega.{arith}
use lib.IntN.{pos}
use Rattle.tables.specs.Marks.{joined, down_from}
use Rattle.tables.specs.View.{sound, register_count, register_width, register_has, parameter_of, offset_of, is_dot, is_one, obeys, variable_count, kind_of, variable_has, bits_of, size, place_of, without, mentions, registers_of}
use Rattle.station.specs.declared.Answer.TheVariants.{Refused, Done}
use Rattle.bits.specs.Bits.{bit, number_of}
use Rattle.bits.specs.Values.{is_below_lem, is_above, in_range, encode, decode}
use Rattle.station.specs.Calls.{cut_to, numbers_in, unless, is_long, is_underway, is_read, is_gathered, is_allowed, own_bit, other_bit, settings_bit, settings_byte, written_byte, gathered_bit, gather}
use Rattle.board.specs.Board.{ToWrite, HalfWritten, World, Call, BeginRead, BeginWrite, Confirm, Abandon, Reopen, put, answers, last_where, reached, after, step, whole_read, whole_write}
use Rattle.board.specs.Demand.{world_after, due_after}
use Rattle.board.specs.Middle.{UnderWay}
use Rattle.board.specs.Done.{DoneWith}
use Rattle.board.specs.Resumes.{found_again, goes_on_lem}
use Rattle.board.specs.Lost.{opened_on}
use Rattle.board.specs.Remarks.{unfinished_in, unfinished, remarks}
use Rattle.board.proofs.Middle.{middle}
use Rattle.board.proofs.Done.{says-done}
use Rattle.board.proofs.Remarks.{remarked}
use Rattle.board.proofs.Scoring.{scoring}
use Rattle.board.proofs.Witness.{start, run, run_is, plain, five_cells, lost_calls, lost_cells, again, run_again, told-again}

-- ── calls that are refused in the middle of a write: a begin (23), and an opening with a list too short (21) ──

abbrev between : List Call
between = BeginWrite 0 (pos 0x456) ∷ BeginRead 1 ∷ Confirm 7 ∷ Reopen (1 ∷ 2 ∷ []) ∷ []

told-between : ((world_after start between).answer ∷ (world_after start (BeginWrite 0 (pos 0x456) ∷ BeginRead 1 ∷ [])).answer ∷ []) ≡ Refused 21 ∷ Refused 23 ∷ []
unfolding run scoring after cut_to numbers_in unless is_long is_underway is_read is_gathered is_allowed is_below_lem is_above in_range encode decode variable_count register_count register_width register_has parameter_of offset_of is_dot is_one kind_of variable_has joined down_from bits_of size place_of without mentions registers_of bit number_of own_bit other_bit settings_bit settings_byte written_byte gathered_bit gather put answers last_where reached obeys
told-between = ap₂ (λ (w u : World). w.answer ∷ u.answer ∷ []) (run_is between) (run_is (BeginWrite 0 (pos 0x456) ∷ BeginRead 1 ∷ []))

-- the write is under way all the same, and its first register is set
asked-between : (world_after start between).asked ≡ ToWrite 0 (pos 0x456)
unfolding run scoring after cut_to numbers_in unless is_long is_underway is_read is_gathered is_allowed is_below_lem is_above in_range encode decode variable_count register_count register_width register_has parameter_of offset_of is_dot is_one kind_of variable_has joined down_from bits_of size place_of without mentions registers_of bit number_of own_bit other_bit settings_bit settings_byte written_byte gathered_bit gather put answers last_where reached obeys
asked-between = ap (λ (w : World). w.asked) (run_is between)

under_way_between : UnderWay start between 0 (pos 0x456)
under_way_between = (middle start).under_way between 0 (pos 0x456) asked-between

cells-between : five_cells (world_after start between).cells ≡ 0x04 ∷ 0x34 ∷ 0x5C ∷ 0x7F ∷ 0x00 ∷ []
unfolding run scoring after cut_to numbers_in unless is_long is_underway is_read is_gathered is_allowed is_below_lem is_above in_range encode decode variable_count register_count register_width register_has parameter_of offset_of is_dot is_one kind_of variable_has joined down_from bits_of size place_of without mentions registers_of bit number_of own_bit other_bit settings_bit settings_byte written_byte gathered_bit gather put answers last_where reached obeys
cells-between = ap (λ (w : World). five_cells w.cells) (run_is between)

-- its last confirmation says done, of the value asked for and by two accesses
done-between : (step sound scoring (Confirm 7) (world_after start between)).answer ≡ Done (pos 0x456) 2
unfolding run scoring after cut_to numbers_in unless is_long is_underway is_read is_gathered is_allowed is_below_lem is_above in_range encode decode variable_count register_count register_width register_has parameter_of offset_of is_dot is_one kind_of variable_has joined down_from bits_of size place_of without mentions registers_of bit number_of own_bit other_bit settings_bit settings_byte written_byte gathered_bit gather put answers last_where reached obeys
done-between = ap (λ (w : World). w.answer) (run_is (between ++ (Confirm 7 ∷ [])))

done-right-between : DoneWith scoring (world_after start between) (step sound scoring (Confirm 7) (world_after start between)) (pos 0x456) 2
done-right-between = (says-done start).done between (Confirm 7) (pos 0x456) 2 done-between

-- ── an abandoned write, and a neighbour's after it: the row's share is new on the board, then old again ──

abbrev row_stopped : List Call
row_stopped = BeginWrite 1 (pos 9) ∷ Abandon true ∷ []

row_shares : (five_cells (world_after start row_stopped).cells ∷ five_cells (world_after start (row_stopped ++ whole_write 2 (pos 3) (7 ∷ []))).cells ∷ [])
    ≡ (0x07 ∷ 0x34 ∷ 0x9C ∷ 0x7F ∷ 0x00 ∷ []) ∷ (0x07 ∷ 0x34 ∷ 0x53 ∷ 0x7F ∷ 0x00 ∷ []) ∷ []
unfolding run scoring after cut_to numbers_in unless is_long is_underway is_read is_gathered is_allowed is_below_lem is_above in_range encode decode variable_count register_count register_width register_has parameter_of offset_of is_dot is_one kind_of variable_has joined down_from bits_of size place_of without mentions registers_of bit number_of own_bit other_bit settings_bit settings_byte written_byte gathered_bit gather put answers last_where reached obeys
row_shares =
    ap₂ (λ (w u : World). five_cells w.cells ∷ five_cells u.cells ∷ []) (run_is row_stopped) (run_is (row_stopped ++ whole_write 2 (pos 3) (7 ∷ [])))

-- ── found again between the two registers, with the second access performed and not known to be:
-- it is performed again ──

resumed : (five_cells (goes_on_lem scoring 7 (found_again scoring true (world_after start between))).cells ∷ []) ≡ (0x04 ∷ 0x56 ∷ 0x5C ∷ 0x7F ∷ 0x00 ∷ []) ∷ []
unfolding run scoring after cut_to numbers_in unless is_long is_underway is_read is_gathered is_allowed is_below_lem is_above in_range encode decode variable_count register_count register_width register_has parameter_of offset_of is_dot is_one kind_of variable_has joined down_from bits_of size place_of without mentions registers_of bit number_of own_bit other_bit settings_bit settings_byte written_byte gathered_bit gather put answers last_where reached obeys
resumed = ap (λ (w : World). five_cells (goes_on_lem scoring 7 (found_again scoring true w)).cells ∷ []) (run_is between)

-- ── power lost between the two registers, where Witness.antt reads neither value ──

-- the list has the score
list-is : unfinished (world_after start lost_calls) ≡ 0 ∷ []
unfolding unfinished_in run scoring after cut_to numbers_in unless is_long is_underway is_read is_gathered is_allowed is_below_lem is_above in_range encode decode variable_count register_count register_width register_has parameter_of offset_of is_dot is_one kind_of variable_has joined down_from bits_of size place_of without mentions registers_of bit number_of own_bit other_bit settings_bit settings_byte written_byte gathered_bit gather put answers last_where reached obeys
list-is = ap unfinished (run_is lost_calls)

-- a write of it is begun and abandoned: it is refused, the row reads as before, and a score written again reads
abbrev marked : List Call
marked = remarks (λ v. pos 0) (0 ∷ [])

told-marked : ((after sound scoring (marked ++ (BeginRead 0 ∷ [])) (opened_on again lost_cells)).answer
    ∷ (after sound scoring (marked ++ whole_read 1 (7 ∷ [])) (opened_on again lost_cells)).answer
    ∷ (after sound scoring (marked ++ whole_write 0 (pos 0x456) (7 ∷ 7 ∷ []) ++ whole_read 0 (7 ∷ 7 ∷ [])) (opened_on again lost_cells)).answer
    ∷ []) ≡ Refused 28 ∷ Done (pos 5) 1 ∷ Done (pos 0x456) 2 ∷ []
unfolding remarks run_again scoring after cut_to numbers_in unless is_long is_underway is_read is_gathered is_allowed is_below_lem is_above in_range encode decode variable_count register_count register_width register_has parameter_of offset_of is_dot is_one kind_of variable_has joined down_from bits_of size place_of without mentions registers_of bit number_of own_bit other_bit settings_bit settings_byte written_byte gathered_bit gather put answers last_where reached obeys
told-marked =
    rw (
      told-again (marked ++ (BeginRead 0 ∷ [])),
      told-again (marked ++ whole_read 1 (7 ∷ [])),
      told-again (marked ++ whole_write 0 (pos 0x456) (7 ∷ 7 ∷ []) ++ whole_read 0 (7 ∷ 7 ∷ [])),
    )

-- and by the law
refused_by_law : due_after again marked 0 ≡ HalfWritten
refused_by_law = (remarked start).refused again (λ v. pos 0) (0 ∷ []) (remarked start).zero-fits 0 (plain 0 (omega arith)) (inl refl)
