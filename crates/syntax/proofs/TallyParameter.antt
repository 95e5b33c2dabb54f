-- The parameter's readers agree with the count of sizes.
-- Assumes nothing.
use Prim.Native.Nat.{ℕ, suc}
use mathlib.Core.Path.{◌≡◌, refl, subst}
use mathlib.Core.Bool.{Bool, true, false}
use mathlib.Core.List.{List}
use mathlib.Core.Option.{Option}
use lib.Dec.{eqb, ltb}
use Rattle.syntax.specs.Step.{Step}
use Rattle.syntax.specs.Reader.{seen_at, number_after}
use Rattle.syntax.specs.Parameter.{width_after, range_to, range_after, next_range, ranges_after, set_after, parameter_after}
use Rattle.syntax.specs.Sizes.{parameter, range, onward, passes_at, Tally, tallied, too_much}
use Rattle.syntax.specs.Items.{closed_by}
use Rattle.syntax.proofs.TallyItems.{Counted, one_more_lem, agrees-unless_full, agrees-items}
use Rattle.syntax.proofs.Tally.{Agrees, Quiet, agrees-tok, agrees-quiet, agrees-past, agrees-enclosed, agrees-name}

module _ (text : List ℕ) (w : Option ℕ) where
  -- bit [ number ]
  pub agrees-width : (c : Tally) → Quiet text w c 513 → Quiet text w c 347 → Quiet text w c 2 → Quiet text w c 349 → (s : Step) → Agrees text w c s → Agrees text w c (width_after text s).step
  unfolding width_after
  agrees-width c bit opens number closes s a =
      agrees-enclosed text w c 513 347 349 (refl, refl, bit) (refl, refl, opens) (refl, refl, number) (refl, refl, closes) s a

  -- number (.. number)?
  pub agrees-range : (c : Tally) → Quiet text w c 2 → Quiet text w c 385 → (s : Step) → Agrees text w c s → Agrees text w c (range_after text s).step
  unfolding range_after range_to number_after
  agrees-range c number dots s a = by (eqb (seen_at text (number_after text s).step).kind 385) refl
    where
      low : Agrees text w c (number_after text s).step
      low = agrees-quiet text w 2 c refl refl number s a

      by : (b : Bool) → eqb (seen_at text (number_after text s).step).kind 385 ≡ b → Agrees text w c (range_after text s).step
      by true i =
          rw i (agrees-quiet text w 2 c refl refl number _ (subst (λ (d : Tally). Agrees text w d (seen_at text (number_after text s).step).past) dots.1
          (agrees-past text w 385 c refl refl dots.0 (number_after text s).step i low)))
      by false i = rw i low

  module _ (registers variables : ℕ) where
    -- the count in the n-th parameter, and in its m-th range
    abbrev in_parameter : ℕ → Tally
    in_parameter n = record { registers = registers; variables = variables; spot = parameter n }

    abbrev in_range : ℕ → ℕ → Tally
    in_range n m = record { registers = registers; variables = variables; spot = range n m }

    -- one more range, or one too many
    next-agrees : (n count : ℕ) (table : List ℕ) (s : Step) → ltb 16 count ≡ false → Agrees text w (in_range n (suc count)) s → Counted text w 16 (in_range n) (next_range text count table s)
    unfolding next_range tallied too_much passes_at onward
    next-agrees n count table s few a =
        agrees-unless_full text w 16 (in_range n) 2 refl (λ m e. e) count table s _ few a
        (λ fits. one_more_lem text w 16 (in_range n) count _ fits (agrees-range (in_range n (suc count)) (fits, refl) (fits, refl) s a))

    -- range (, range)*
    ranges-agree : (n : ℕ) (table : List ℕ) (s : Step) → Agrees text w (in_range n 1) s → Counted text w 16 (in_range n) (ranges_after text table s)
    unfolding ranges_after tallied too_much passes_at onward
    ranges-agree n table s a = agrees-items text w 16 (in_range n) (next_range text) 300 (next-agrees n) (λ m s few i a. agrees-past text w 300 (in_range n m) refl refl few s i a) 0 table s refl a

    -- (@ { ranges })?
    agrees-set : (n : ℕ) → ltb 16 n ≡ false → (table : List ℕ) (s : Step) → Agrees text w (in_parameter n) s → Agrees text w (in_parameter n) (set_after text table s).listed.step
    unfolding set_after closed_by tallied too_much passes_at onward
    agrees-set n fits table s a = by (eqb (seen_at text s).kind 320) refl
      where
        by : (b : Bool) → eqb (seen_at text s).kind 320 ≡ b → Agrees text w (in_parameter n) (set_after text table s).listed.step
        by false i = rw i a
        by true i =
            let all = ranges-agree n table _ (agrees-tok text w 379 (in_parameter n) refl refl fits _ (agrees-past text w 320 (in_parameter n) refl refl fits s i a)) in
            rw i (agrees-tok text w 381 (in_range n _) refl refl all.0 _ all.1)

    -- THE PARAMETER
    pub agrees-parameter : (n : ℕ) → ltb 16 n ≡ false → (table : List ℕ) (s : Step) → Agrees text w (in_parameter n) s → Agrees text w (in_parameter n) (parameter_after text table s).parameter.step
    unfolding parameter_after tallied too_much passes_at onward
    agrees-parameter n fits table s a =
        agrees-set n fits table _ (agrees-tok text w 524 (in_parameter n) refl refl fits _
        (agrees-width (in_parameter n) (fits, refl) (fits, refl) (fits, refl) (fits, refl) _
        (agrees-tok text w 314 (in_parameter n) refl refl fits _ (agrees-name text w (in_parameter n) fits s a))))
