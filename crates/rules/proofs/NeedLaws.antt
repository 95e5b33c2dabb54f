-- A register needs a parameter, and a variable needs a register.
-- Assumes nothing.
use Prim.Native.Nat.{ℕ, ◌+◌, ◌-◌, ◌*◌, ◌≤◌}
use native.Mathlib.Omega.{arith}
use mathlib.Core.Path.{◌≡◌, refl, sym, ◌∙◌}
use mathlib.Core.Bool.{Bool, true, false, ◌&&◌, ◌||◌}
use mathlib.Core.List.{List}
use lib.Dec.{eqb, leb, ltb}
use lib.ListN.{get_or}
use borrow.Author.Tests.{leb-true, ltb-true}
use Rattle.tables.specs.Every.{every, zeros}
use Rattle.tables.specs.Marks.{distinct}
use Rattle.tables.specs.Words.{count_of, present, piece_count, piece_at, piece_in, trigger_of, register_part, register_part_in, register_width, variable_part, variable_part_in, kind_of, volatile_of, part_bits}
use Rattle.bits.specs.Widths.{is_width}
use Rattle.tables.specs.Rules.{masks_fit, register_part_shape, register_shape, piece_fits, part_maps, own_fault, variable_part_shape, variable_shape, variable_fault, mapped_before, trigger_shared}
use Rattle.tables.specs.Sound.{register_good, variable_good}
use Rattle.tables.proofs.Laws.{every-at}
use Rattle.tables.proofs.BelowLaws.{piece-fit, own-maps}
use Rattle.tables.proofs.SoundLaws.{fault-parts}
use Rattle.logic.proofs.Tests.{and_left, and_right}

either : (a b : Bool) (P : Type 0) → (a || b) ≡ true → (a ≡ true → P) → (b ≡ true → P) → P
either true b P h f g = f refl
either false b P h f g = g h

module _ (ps rs : List ℕ) (i : ℕ) (good : register_good ps rs i ≡ true) where
  part-needs : (w at : ℕ) → register_part_shape ps rs w at ≡ true → present rs at ≡ true → 1 ≤ count_of ps
  unfolding register_part_shape
  part-needs w at shape e =
      let there : (ltb (get_or rs (at + 1) 0) (count_of ps) && masks_fit w (register_part_in rs at)) ≡ true = sym (rw e) ∙ shape in
      let l = ltb-true (get_or rs (at + 1) 0) (count_of ps) (and_left (ltb (get_or rs (at + 1) 0) (count_of ps)) _ there) in
      omega arith

  pub register-needs : 1 ≤ count_of ps
  unfolding register_good register_shape
  register-needs =
      let shape : register_shape ps rs i ≡ true = and_left (register_shape ps rs i) _ good in
      let w = register_width rs i in
      let masked = and_right (is_width w) _ shape in
      let parts = and_left (register_part_shape ps rs w (register_part i 0) && register_part_shape ps rs w (register_part i 1)) _ masked in
      let some = and_right (register_part_shape ps rs w (register_part i 0) && register_part_shape ps rs w (register_part i 1)) _ masked in
      either (present rs (register_part i 0)) (present rs (register_part i 1)) (1 ≤ count_of ps) some
      (part-needs w (register_part i 0) (and_left (register_part_shape ps rs w (register_part i 0)) _ parts))
      (part-needs w (register_part i 1) (and_right (register_part_shape ps rs w (register_part i 0)) _ parts))

module _ (rs vs : List ℕ) (v : ℕ) (good : variable_good rs vs v ≡ true) where
  -- a part that is there has a piece, whose register is there
  piece-needs : (p at : ℕ) → variable_part_shape vs at ≡ true → part_maps rs p (variable_part_in vs at) ≡ true → present vs at ≡ true → 1 ≤ count_of rs
  unfolding variable_part_shape part_maps
  piece-needs p at shape maps e =
      let n = piece_count vs at in
      let there : (leb n 8 && (leb 1 n && leb (trigger_of vs at) 1 && zeros vs (piece_at at n) (24 - 3 * n))) ≡ true = sym (rw e) ∙ shape in
      let some = leb-true 1 n (and_left (leb 1 n) _ (and_left (leb 1 n && leb (trigger_of vs at) 1) _ (and_right (leb n 8) _ there))) in
      let pieces = every n (λ j. piece_fits rs p (piece_in vs (piece_at at j))) in
      let fit = every-at n _ (and_left pieces (distinct (part_bits (variable_part_in vs at))) (and_left (pieces && distinct (part_bits (variable_part_in vs at))) _ maps)) 0 (omega arith) in
      let r = (piece-fit rs p vs (piece_at at 0) fit).register in
      omega arith

  own-none : eqb (own_fault rs vs v) 0 ≡ true
  unfolding variable_good variable_fault
  own-none =
      let parts = fault-parts (own_fault rs vs v) (mapped_before vs 0 v) (mapped_before vs 1 v) (trigger_shared vs 0 v) (trigger_shared vs 1 v) in
      and_left (eqb (own_fault rs vs v) 0) _ (sym parts ∙ and_right (variable_shape vs v) _ good)

  pub variable-needs : 1 ≤ count_of rs
  unfolding variable_good variable_shape
  variable-needs =
      let shape : variable_shape vs v ≡ true = and_left (variable_shape vs v) _ good in
      let flags = leb (kind_of vs v) 2 && leb (volatile_of vs v) 1 in
      let read = variable_part_shape vs (variable_part v 0) in
      let write = variable_part_shape vs (variable_part v 1) in
      let front = and_left (flags && read && write) _ shape in
      let maps = own-maps rs vs v own-none in
      either (present vs (variable_part v 0)) (present vs (variable_part v 1)) (1 ≤ count_of rs) (and_right (flags && read && write) _ shape)
      (piece-needs 0 (variable_part v 0) (and_right flags read (and_left (flags && read) write front)) (and_left (part_maps rs 0 (variable_part_in vs (variable_part v 0))) _ maps))
      (piece-needs 1 (variable_part v 1) (and_right (flags && read) write front) (and_right (part_maps rs 0 (variable_part_in vs (variable_part v 0))) _ maps))
