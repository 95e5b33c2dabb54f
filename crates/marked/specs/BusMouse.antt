-- Besides the marked cases: the bus mouse of document 001, its lost dots restored, from its text to its bytes. The text
-- is that of boards/busmouse.devil without its comments: the counter is only read, the signature is both; index,
-- interruption and control are only written, and the first two share an offset. Assumes nothing.
use Rattle.std.specs.Prelude.{ℕ, ◌≡◌, List, [], ◌∷◌, ◌++◌, pos}
use Rattle.token.specs.Bytes.{bytes}
use Rattle.loader.specs.Verdict.{accepted}
use Rattle.station.specs.declared.Answer.TheVariants.{Refused as CallRefused, Done}
use Rattle.board.specs.Board.{BeginWrite, whole_read, whole_write}
use Rattle.marked.specs.Marked.{Case, runs, reads, writes, any, outcome_of, stated_by}

abbrev pub mouse : List ℕ
mouse =
    bytes "device logitech_busmouse(base : bit[8] port @ {0..3}) { register counter = read base @ 0 : bit[8]; " ++
    bytes "variable buttons = counter[7..5], volatile : int(3); variable nibble = counter[3..0], volatile : int(4); variable spare = counter[4], volatile : bool; " ++
    bytes "register sr = base @ 1 : bit[8]; variable signature = sr : int(8); " ++
    bytes "register index_reg = write base @ 2, mask '1..00000' : bit[8]; variable index = index_reg[6..5] : int(2); " ++
    bytes "register interruption = write base @ 2, mask '000.0000' : bit[8]; variable disabled = interruption[4] : bool; " ++
    bytes "register cr = write base @ 3, mask '1001000.' : bit[8]; variable config = cr[0] : bool; }"

-- the buttons are read; the signature is written and read back; the index is set and the interruption disabled, at one
-- offset, and the control register configured, each with its mask's fixed bits; what is only read is not written
unfoldable pub bus_mouse : Case
bus_mouse =
    runs mouse (accepted 1 5 7) (0x6B ∷ 0 ∷ 0 ∷ 0 ∷ 0 ∷ [])
    (whole_read 0 (any ∷ []) ++ whole_write 3 (pos 0xA5) (any ∷ []) ++ whole_read 3 (any ∷ []) ++ whole_write 4 (pos 2) (any ∷ []) ++
    whole_write 5 (pos 1) (any ∷ []) ++ whole_write 6 (pos 1) (any ∷ []) ++ BeginWrite 0 (pos 1) ∷ [])
    (reads 0 ∷ Done (pos 3) 1 ∷ writes 1 0xA5 ∷ Done (pos 0xA5) 1 ∷ reads 1 ∷ Done (pos 0xA5) 1 ∷ writes 2 0xC0 ∷ Done (pos 2) 1
    ∷ writes 2 0x10 ∷ Done (pos 1) 1 ∷ writes 3 0x91 ∷ Done (pos 1) 1 ∷ CallRefused 26 ∷ [])

-- it comes to what it states
abbrev pub BusMouse : Type 0
BusMouse = outcome_of bus_mouse ≡ stated_by bus_mouse
