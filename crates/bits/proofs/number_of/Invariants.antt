-- `bits::number_of` meets its contract: the number is what the bits so far make.
use Prim.Native.Nat.{ℕ, ◌<◌, ◌^◌}
use mathlib.Core.Path.{◌≡◌}
use mathlib.Core.Bool.{Bool}
use Rattle.bits.specs.Bits.{number_of}
use Rattle.bits.proofs.number_of.Given as goal

abbrev pub invariant-loop-b : goal.invariant-loop-b
invariant-loop-b g l = record {
  small : l.number < 2 ^ l.b;
  is : (f : ℕ → Bool) → ((b : ℕ) (on : Bool) → goal.F-post g l.bit b on → on ≡ f b) → l.number ≡ number_of l.b f;
}
