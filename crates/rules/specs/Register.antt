-- Judging a register: rules 6 to 10 and 12 in the order of document 01, and the entry that it gets.
use Rattle.std.specs.Prelude.{ℕ, ◌+◌, Bool, ◌&&◌, ◌||◌, not, cond, List, [], ◌∷◌, ◌++◌, eqb, leb, pos, negsuc, Option, Some, None, is_some, unwrap_or}
use Rattle.std.specs.Bool.{then_some}
use Rattle.expression.specs.Value.{Worth}
use Rattle.syntax.specs.declared.register.Port.{Port}
use Rattle.syntax.specs.declared.register.Masks.{Masks}
use Rattle.syntax.specs.declared.register.Register.{Register}
use Rattle.syntax.specs.Register.{is_masked}
use Rattle.tables.specs.Tables.{count_of}
use Rattle.tables.specs.Rules.{offset_in, register_fault}
use Rattle.rules.specs.declared.fault.Fault.{Fault}
use Rattle.rules.specs.declared.mask.Mask.{Mask}
use Rattle.rules.specs.Fault.{fault_if, fault_of, only, or_else}
use Rattle.rules.specs.State.{State, unless_broken, with_registers}
use Rattle.rules.specs.Names.{name_of, parameter_named, is_nothing, index_of, declared_before}
use Rattle.rules.specs.Words.{word_of, appended}
use Rattle.rules.specs.Modifiers.{are_paired, at_most_one}
use Rattle.rules.specs.Mask.{mask_at}

-- ── offsets ──

-- an offset is a natural number; a bad expression is none
unfoldable pub natural_in : Worth → Option ℕ
natural_in (Some (pos n)) = Some n
natural_in (Some (negsuc n)) = None
natural_in None = None

abbrev pub is_natural : Worth → Bool
is_natural worth = is_some (natural_in worth)

abbrev pub natural_of : Worth → ℕ
natural_of worth = unwrap_or (natural_in worth) 0

-- ── pairing and masks ──

-- its ports are paired
abbrev pub is_paired : Register → Bool
is_paired r = are_paired (not r.two) r.first.mark r.second.mark

-- a register has a part unless its one port has the modifier of the other part
unfoldable pub has_part_lem : Register → ℕ → Bool
has_part_lem r other = r.two || not (eqb r.first.mark other)

-- 02, No. 6: "Rule 9's mask length .. read[s] the register's own width": each mask has as many elements as the register
-- has bits, be that a width or not (then 12)
unfoldable pub masks_long : Register → Bool
masks_long r = not r.masks.odd && (not (is_masked r.masks) || eqb r.masks.extent r.width)

-- and each part has at most one mask
unfoldable pub masks_kept : Register → Bool
masks_kept r =
    masks_long r && at_most_one (has_part_lem r 2) r.masks.bare r.masks.read && at_most_one (has_part_lem r 1) r.masks.bare r.masks.write

-- ── the entry ──

-- the port of the part with this modifier
unfoldable pub port_of : Register → ℕ → Port
port_of r mark = cond (r.two && not (eqb r.first.mark mark)) r.second r.first

-- the mask of a part of w bits: its own, or the bare one, or all dots
unfoldable pub part_mask : List ℕ → ℕ → Masks → ℕ → ℕ → Mask
part_mask text w masks own quote = mask_at text w (then_some (leb 1 (masks.bare + own)) (cond (eqb own 0) masks.whole quote))

-- present, parameter, offset, dots, fixed, ones; six zeros where the part is missing
unfoldable pub part_entry : Bool → ℕ → ℕ → Mask → List ℕ
part_entry present index offset mask =
    cond present (1 ∷ word_of index ∷ word_of offset ∷ mask.dots ∷ mask.fixed ∷ mask.ones ∷ []) (0 ∷ 0 ∷ 0 ∷ 0 ∷ 0 ∷ 0 ∷ [])

-- the parameter that a port names, among the parameters `ps`
unfoldable pub port_found : List ℕ → List ℕ → Port → Option ℕ
port_found text ps p = parameter_named text ps (name_of text p.place p.length)

-- the words of a part: `mark` is its modifier, `other` the other part's; `own` and `quote` say of its own masks
unfoldable pub part_words : List ℕ → List ℕ → Register → ℕ → ℕ → ℕ → ℕ → List ℕ
part_words text ps r mark other own quote =
    part_entry (has_part_lem r other) (index_of (port_found text ps (port_of r mark))) (natural_of (port_of r mark).worth) (part_mask text r.width r.masks own quote)

-- name place, name length, width, the read part, the write part
unfoldable pub register_entry : List ℕ → List ℕ → Register → List ℕ
register_entry text ps r =
    (word_of r.place ∷ word_of r.length ∷ r.width ∷ []) ++ part_words text ps r 1 2 r.masks.read r.masks.reading ++
    part_words text ps r 2 1 r.masks.write r.masks.writing

-- ── the rules ──

-- 7, at the port's name
unfoldable pub unknown_port : List ℕ → List ℕ → Port → Option Fault
unknown_port text ps p = fault_if (is_nothing (port_found text ps p)) 7 p.place

-- 8, at the `@`, or at the declared name where the offset is left out
unfoldable pub bad_offset : List ℕ → List ℕ → ℕ → Port → Option Fault
bad_offset text ps place p =
    fault_if (not (is_natural p.worth && offset_in ps (index_of (port_found text ps p)) (natural_of p.worth))) 8 (unwrap_or p.sign place)

-- 6 to 9, as the register is written
unfoldable pub register_written : List ℕ → State → Register → Option Fault
register_written text s r =
    or_else (declared_before text s r.place r.length)
    (or_else (unknown_port text s.parameters r.first)
    (or_else (only r.two (unknown_port text s.parameters r.second))
    (or_else (bad_offset text s.parameters r.place r.first)
    (or_else (only r.two (bad_offset text s.parameters r.place r.second))
    (fault_if (not (is_paired r && masks_kept r)) 9 r.place)))))

-- the entry is written, then judged by 10 and 12
unfoldable pub added_register : List ℕ → State → Register → State
added_register text s r =
    let table : List ℕ = appended 15 s.registers (register_entry text s.parameters r) in
    with_registers s table (fault_of (register_fault s.parameters table (count_of s.registers)) r.place)

-- 6 to 9, then 10 and 12
unfoldable pub judge_register : List ℕ → State → Register → State
judge_register text s r = unless_broken s (register_written text s r) (added_register text s r)
