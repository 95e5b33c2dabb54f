-- The entry of a parameter has the shape that refusal 20 wants: one to sixteen ranges, and zeros behind them.
-- Assumes nothing.
use Prim.Native.Nat.{ℕ, suc, ◌+◌, ◌-◌, ◌*◌, ◌≤◌, ◌<◌}
use native.Mathlib.Omega.{arith}
use mathlib.Core.Path.{◌≡◌, refl, ap, ◌∙◌}
use mathlib.Core.Bool.{Bool, true, false}
use mathlib.Core.List.{List}
use lib.Dec.{eqb, leb}
use lib.ListN.{length, get_or, set, replicate, length-set, length-replicate, get_or-replicate, get_or-eq_default}
use lib.Seq.{get_or-set_other}
use borrow.Author.Tests.{le-leb, leb-true, leb-false}
use Rattle.syntax.specs.Step.{Step}
use Rattle.syntax.specs.Reader.{seen_at, fixed_after}
use Rattle.syntax.specs.Items.{Filed, unless_full, closed_by, item_turn, more_items, items_after}
use Rattle.syntax.specs.Parameter.{ParameterRead, stored, range_after, next_range, ranges_after, set_after, parameter_after}
use Rattle.tables.specs.Words.{count_of, range_count, parameter_at}
use Rattle.tables.specs.Rules.{parameter_shape}
use Rattle.tables.proofs.ZeroLaws.{zeros-are}
use Rattle.rules.specs.Words.{appended}
use Rattle.rules.specs.Parameter.{parameter_entry}
use Rattle.syntax.proofs.LoopSteps.{loop-keeps}
use Rattle.rules.proofs.WordLaws.{word-itself}
use Rattle.rules.proofs.AppendLaws.{appended-word}

-- n ranges in a table of 32 words, zero behind them
record Ranged (n : ℕ) (table : List ℕ) : Type 0 where
  long : length table ≡ 32
  blank : (i : ℕ) → 2 * n ≤ i → get_or table i 0 ≡ 0

none-ranged : Ranged 0 (replicate 32 0)
none-ranged = record { long = length-replicate {A = ℕ} 32 0; blank = λ i l. go i (leb 32 i) refl }
  where
    go : (i : ℕ) (b : Bool) → leb 32 i ≡ b → get_or (replicate {A = ℕ} 32 0) i 0 ≡ 0
    go i true e = get_or-eq_default (replicate {A = ℕ} 32 0) 0 (leb-true 32 i e)
    go i false e = get_or-replicate 32 i 0 0 (leb-false 32 i e)

more-ranged : (n low high : ℕ) (table : List ℕ) → Ranged n table → Ranged (n + 1) (stored n low high table)
unfolding stored
more-ranged n low high table r =
    let one = set table (2 * n) low in
    record {
      long = length-set one (2 * n + 1) high ∙ length-set table (2 * n) low ∙ r.long;
      blank = λ i l.
          get_or-set_other one (2 * n + 1) i high 0 (λ e. omega arith) ∙ get_or-set_other table (2 * n) i low 0 (λ e. omega arith)
          ∙ r.blank i (omega arith);
    }

-- what was read of a parameter's set
record Set (least : ℕ) (l : Filed) : Type 0 where
  some : least ≤ l.listed.value
  few : l.listed.value ≤ 16
  ranged : Ranged l.listed.value l.table

module _ (text : List ℕ) where
  next-set : (count : ℕ) (table : List ℕ) (s : Step) → count ≤ 16 → Ranged count table → Set 1 (next_range text count table s)
  unfolding next_range unless_full
  next-set count table s h r = by (leb 16 count) refl
    where
      by : (b : Bool) → leb 16 count ≡ b → Set 1 (next_range text count table s)
      by true e = rw e (record { some = omega (arith, leb-true 16 count e); few = h; ranged = r })
      by false e =
          rw e
          (record {
            some = omega arith;
            few = omega (arith, leb-false 16 count e);
            ranged = more-ranged count (range_after text s).value.first (range_after text s).value.last table r;
          })

  ranges-set : (table : List ℕ) (s : Step) → Ranged 0 table → Set 1 (ranges_after text table s)
  unfolding ranges_after items_after more_items item_turn
  ranges-set table s r =
      let one = next-set 0 table s (omega arith) r in
      loop-keeps text (λ l. l.listed.step) (λ kind. eqb kind 300) (item_turn text (next_range text) 300) (Set 1)
      (λ l e h. next-set l.listed.value l.table (seen_at text l.listed.step).past h.few h.ranged) (length text) _
      (record { some = one.some; few = one.few; ranged = one.ranged })

  set-read : (s : Step) → Set 1 (set_after text (replicate 32 0) s)
  unfolding set_after closed_by
  set-read s = by (eqb (seen_at text s).kind 320) refl
    where
      by : (b : Bool) → eqb (seen_at text s).kind 320 ≡ b → Set 1 (set_after text (replicate 32 0) s)
      by true e =
          let r = ranges-set (replicate 32 0) (fixed_after text 379 (seen_at text s).past) none-ranged in
          rw e (record { some = r.some; few = r.few; ranged = r.ranged })
      by false e = rw e (record { some = omega arith; few = omega arith; ranged = more-ranged 0 0 0 (replicate 32 0) none-ranged })

-- the set of a parameter, however its text goes on
pub record Sets (d : ParameterRead) : Type 0 where
  some : 1 ≤ d.parameter.ranges
  few : d.parameter.ranges ≤ 16
  long : length d.table ≡ 32
  blank : (i : ℕ) → 2 * d.parameter.ranges ≤ i → get_or d.table i 0 ≡ 0

pub parameter-sets : (text : List ℕ) (s : Step) → Sets (parameter_after text (replicate 32 0) s)
unfolding parameter_after
parameter-sets text s =
    let r = set-read text _ in
    record { some = r.some; few = r.few; long = r.ranged.long; blank = r.ranged.blank }

pub entry-long : (d : ParameterRead) → Sets d → length (parameter_entry d) ≡ 36
unfolding parameter_entry
entry-long d sets = ap (λ (n : ℕ). suc (suc (suc (suc n)))) sets.long

module _ (ps : List ℕ) (d : ParameterRead) (sets : Sets d) (fits : 36 * count_of ps + 37 ≤ length ps) where
  abbrev at : ℕ
  at = parameter_at (count_of ps)

  abbrev with-entry : List ℕ
  with-entry = appended 36 ps (parameter_entry d)

  word : (k : ℕ) → k < 36 → get_or with-entry (at + k) 0 ≡ get_or (parameter_entry d) k 0
  word k l = appended-word 36 ps (parameter_entry d) (omega (arith, entry-long d sets)) k (omega (arith, entry-long d sets))

  counted : range_count with-entry (count_of ps) ≡ d.parameter.ranges
  unfolding parameter_entry
  counted = word 3 (omega arith) ∙ word-itself d.parameter.ranges (omega (arith, sets.few))

  blank-behind : (k : ℕ) → k < 32 - 2 * d.parameter.ranges → get_or with-entry (at + 4 + 2 * d.parameter.ranges + k) 0 ≡ 0
  unfolding parameter_entry
  blank-behind k l =
      let n = 2 * d.parameter.ranges + k in
      let e : at + 4 + 2 * d.parameter.ranges + k ≡ at + suc (suc (suc (suc n))) = omega arith in
      ap (λ (i : ℕ). get_or with-entry i 0) e ∙ word (suc (suc (suc (suc n)))) (omega arith) ∙ sets.blank n (omega arith)

  pub parameter_shape_lem : parameter_shape with-entry (count_of ps) ≡ true
  unfolding parameter_shape
  parameter_shape_lem =
      rw (counted, le-leb d.parameter.ranges 16 sets.few, le-leb 1 d.parameter.ranges sets.some)
      (zeros-are with-entry (at + 4 + 2 * d.parameter.ranges) (32 - 2 * d.parameter.ranges) blank-behind)
