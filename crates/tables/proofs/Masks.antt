-- The masks of sound tables: each element is one of `.`, `0`, `1` and `*`. A dot is not fixed, and what is `1` is
-- fixed, so it is no dot.
use Prim.Native.Nat.{ℕ, ◌<◌, ◌^◌}
use native.Mathlib.Omega.{arith}
use mathlib.Core.Path.{◌≡◌, refl, sym, ap, ◌∙◌}
use mathlib.Core.Bool.{Bool, true, false, ◌&&◌, ◌||◌, cond, true≢false, false≢true}
use mathlib.Core.List.{List}
use lib.Bits.{bit_and}
use lib.Dec.{eqb, ltb}
use borrow.Author.Tests.{eqb-true, eq-eqb, ltb-true, ltb-false}
use Rattle.bits.specs.Bits.{bit}
use Rattle.bits.specs.Widths.{is_width}
use Rattle.bits.proofs.BitLaws.{bit-over}
use Rattle.bits.proofs.MaskLaws.{bit_and_lem, bits-apart, bits_inside, bit-none, same_bits}
use Rattle.tables.specs.Every.{every, zeros}
use Rattle.tables.specs.Tables.{count_of, register_width, RegisterPart, register_part_in, register_part_of, register_part}
use Rattle.tables.specs.Rules.{masks_fit, register_part_shape, register_shape, parameter_shape, variable_shape}
use Rattle.tables.specs.Sound as S
use Rattle.tables.specs.Sound.{tables_fit, rest_zero, shapes_fit, rules_kept}
use Rattle.tables.specs.View.{Tables, Part, reading, writing, part_no, sound, register_count, register_width as wide, is_dot, is_one, is_fixed, obeys}
use Rattle.tables.proofs.Laws.{every-at}
use Rattle.tables.proofs.ZeroLaws.{zeros-at}
use Rattle.logic.proofs.Tests.{and_left, and_right}

-- a bit of a number of w bits is below w
narrow-bit : (w b n : ℕ) → n < 2 ^ w → bit b n ≡ true → b < w
narrow-bit w b n h on = go (ltb b w) refl
  where
    go : (inside : Bool) → ltb b w ≡ inside → b < w
    go true e = ltb-true b w e
    go false e = absurd (true≢false (sym on ∙ bit-over w b n h (ltb-false b w e)))

-- the masks of a part of a fitting shape, there or not
pub record Elements (w : ℕ) (part : RegisterPart) : Type 0 where
  pub dot-in-width : (b : ℕ) → bit b part.dots ≡ true → b < w
  pub dot-not-fixed : (b : ℕ) → bit b part.dots ≡ true → bit b part.fixed ≡ false
  pub one-is_fixed : (b : ℕ) → bit b part.ones ≡ true → bit b part.fixed ≡ true
  pub fixed-in-width : (b : ℕ) → bit b part.fixed ≡ true → b < w

by_masks : (w : ℕ) (part : RegisterPart) → masks_fit w part ≡ true → Elements w part
by_masks w part h =
    let small = ltb part.dots (2 ^ w) && ltb part.fixed (2 ^ w) in
    let apart = eqb (bit_and part.dots part.fixed) 0 in
    let inside = eqb (bit_and part.ones part.fixed) part.ones in
    record {
      dot-in-width = λ b on. narrow-bit w b part.dots (ltb-true _ _ (and_left (ltb part.dots (2 ^ w)) _ (and_left small apart (and_left (small && apart) inside h)))) on;
      fixed-in-width = λ b on. narrow-bit w b part.fixed (ltb-true _ _ (and_right (ltb part.dots (2 ^ w)) (ltb part.fixed (2 ^ w)) (and_left small apart (and_left (small && apart) inside h)))) on;
      dot-not-fixed = bits-apart part.dots part.fixed (eqb-true _ 0 (and_right small apart (and_left (small && apart) inside h)));
      one-is_fixed = bits_inside part.ones part.fixed (eqb-true _ part.ones (and_right (small && apart) inside h));
    }

no-bit : (b n : ℕ) → n ≡ 0 → bit b n ≡ true → ⊥
no-bit b n e h = false≢true (sym (bit-none b) ∙ ap (bit b) (sym e) ∙ h)

pub part-elements : (ps rs : List ℕ) (w at : ℕ) → register_part_shape ps rs w at ≡ true → Elements w (register_part_in rs at)
unfolding register_part_shape
part-elements ps rs w at h = go (register_part_in rs at).present h
  where
    go : (b : Bool) → cond b (ltb (register_part_in rs at).parameter (count_of ps) && masks_fit w (register_part_in rs at)) (zeros rs at 6) ≡ true
        → Elements w (register_part_in rs at)
    go true e = by_masks w (register_part_in rs at) (and_right (ltb (register_part_in rs at).parameter (count_of ps)) _ e)
    go false e =
        record {
          dot-in-width = λ b d. absurd (no-bit b _ (zeros-at rs at 6 e 3 (omega arith)) d);
          fixed-in-width = λ b d. absurd (no-bit b _ (zeros-at rs at 6 e 4 (omega arith)) d);
          dot-not-fixed = λ b d. absurd (no-bit b _ (zeros-at rs at 6 e 3 (omega arith)) d);
          one-is_fixed = λ b d. absurd (no-bit b _ (zeros-at rs at 6 e 5 (omega arith)) d);
        }

-- a byte obeys a mask exactly when it has, at each fixed bit, what is fixed there
pub obeys-by-bits : (t : Tables) (part : Part) (r byte : ℕ) → ((b : ℕ) → (bit b byte && is_fixed t part r b) ≡ is_one t part r b) → obeys t part r byte ≡ true
unfolding obeys is_fixed is_one
obeys-by-bits t part r byte has = eq-eqb _ _ (same_bits _ _ (λ b. bit_and_lem b byte _ ∙ has b))

pub obeyed-bits : (t : Tables) (part : Part) (r byte : ℕ) → obeys t part r byte ≡ true → (b : ℕ) → (bit b byte && is_fixed t part r b) ≡ is_one t part r b
unfolding obeys is_fixed is_one
obeyed-bits t part r byte h b =
    let mask = register_part_of t.registers (part_no part) r in
    sym (bit_and_lem b byte mask.fixed) ∙ ap (bit b) (eqb-true (bit_and byte mask.fixed) mask.ones h)

module _ (t : Tables) (ok : sound t ≡ true) where
  register_shape_lem : (r : ℕ) → r < register_count t → register_shape t.parameters t.registers r ≡ true
  unfolding sound S.sound shapes_fit register_count
  register_shape_lem r l =
      let ps = t.parameters in
      let rs = t.registers in
      let vs = t.variables in
      let a = every (count_of ps) (parameter_shape ps) in
      let b = every (count_of rs) (register_shape ps rs) in
      let c = every (count_of vs) (variable_shape vs) in
      let shapes = and_right (rest_zero ps rs vs) _ (and_left (rest_zero ps rs vs && shapes_fit ps rs vs) (rules_kept ps rs vs) (and_right (tables_fit ps rs vs) _ ok)) in
      every-at (count_of rs) (register_shape ps rs) (and_right a b (and_left (a && b) c shapes)) r l

  pub elements : (part : Part) (r : ℕ) → r < register_count t → Elements (register_width t.registers r) (register_part_of t.registers (part_no part) r)
  unfolding register_shape
  elements part r l = pick part
    where
      shape : ℕ → Bool
      shape p = register_part_shape t.parameters t.registers (register_width t.registers r) (register_part r p)

      both : (shape 0 && shape 1) ≡ true
      both = and_left (shape 0 && shape 1) ((register_part_of t.registers 0 r).present || (register_part_of t.registers 1 r).present) (and_right (is_width (register_width t.registers r)) _ (register_shape_lem r l))

      pick : (part : Part) → Elements (register_width t.registers r) (register_part_of t.registers (part_no part) r)
      pick reading = part-elements t.parameters t.registers (register_width t.registers r) (register_part r 0) (and_left (shape 0) (shape 1) both)
      pick writing = part-elements t.parameters t.registers (register_width t.registers r) (register_part r 1) (and_right (shape 0) (shape 1) both)

  -- a dot is a bit of its register
  pub dot-inside : (part : Part) (r b : ℕ) → r < register_count t → is_dot t part r b ≡ true → b < wide t r
  unfolding is_dot wide
  dot-inside part r b l on = (elements part r l).dot-in-width b on

  -- a fixed bit is a bit of the register, and no dot
  pub fixed-inside : (part : Part) (r b : ℕ) → r < register_count t → is_fixed t part r b ≡ true → b < wide t r
  unfolding is_fixed wide
  fixed-inside part r b l on = (elements part r l).fixed-in-width b on

  pub fixed-no-dot : (part : Part) (r b : ℕ) → r < register_count t → is_fixed t part r b ≡ true → is_dot t part r b ≡ false
  unfolding is_fixed is_dot
  fixed-no-dot part r b l on = go (bit b (register_part_of t.registers (part_no part) r).dots) refl
    where
      go : (d : Bool) → bit b (register_part_of t.registers (part_no part) r).dots ≡ d → d ≡ false
      go true e = absurd (true≢false (sym on ∙ (elements part r l).dot-not-fixed b e))
      go false e = refl

  pub one-fixed : (part : Part) (r b : ℕ) → r < register_count t → is_one t part r b ≡ true → is_fixed t part r b ≡ true
  unfolding is_fixed is_one
  one-fixed part r b l one = (elements part r l).one-is_fixed b one

  -- a `1` is no dot: the byte written takes each of its bits from one place
  pub one-no-dot : (part : Part) (r b : ℕ) → r < register_count t → is_one t part r b ≡ true → is_dot t part r b ≡ false
  one-no-dot part r b l one = fixed-no-dot part r b l (one-fixed part r b l one)
