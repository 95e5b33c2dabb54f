-- `bits::number_of` meets its contract: the number is what the bits so far make.
use Prim.Native.Nat.{ℕ, ◌+◌, ◌*◌, ◌<◌, ◌≤◌, ◌^◌}
use mathlib.Core.Path.{◌≡◌, ◌∙◌, sym, ap}
use mathlib.Core.Bool.{Bool, true, false}
use native.Mathlib.Omega.{arith}
use native.Mathlib.Numerals.{add-one}
use lib.Pow.{pow_mono}
use Rattle.bits.specs.Bits.{digit, number_of}
use Rattle.bits.specs.Widths.{widest}
use Rattle.bits.proofs.BitLaws.{number-none, number-turn}
use Rattle.bits.proofs.number_of.Goals as goal

bit-more : (w number : ℕ) (on : Bool) {next : ℕ} → number < 2 ^ w → next ≡ number + digit on * 2 ^ w → next < 2 ^ (w + 1)
bit-more w number true h e = rw add-one (omega (arith, h, e))
bit-more w number false h e = rw add-one (omega (arith, h, e))

pub loop-b-init : goal.loop-b-init
loop-b-init g c = record { small = omega arith; is = λ f same. sym (number-none f) }

pub with_bit-number-requires : goal.with_bit-number-requires
with_bit-number-requires g c =
    let most : c.loop-b.b ≤ widest = omega arith in
    (most, omega (arith, c.loop-b.invariant.small, pow_mono most))

pub loop-b-preserved : goal.loop-b-preserved
loop-b-preserved g c =
    let l = c.loop-b in
    record {
      small = bit-more l.b l.number _ l.invariant.small c.with_bit-number.ensures;
      is = λ f same. number-turn l.b f (l.invariant.is f same) (same _ _ c.bit.ensures) c.with_bit-number.ensures;
    }

pub returns : goal.returns
returns g c =
    let whole : c.loop-b.b ≡ c.args.width = omega arith in
    record {
      is = λ f same. c.loop-b.invariant.is f same ∙ ap (λ (n : ℕ). number_of n f) whole;
      small = omega (arith, c.loop-b.invariant.small, ap (λ (n : ℕ). 2 ^ n) whole);
    }
