-- Bits of numbers, for any width: a bit of a number, and the number that has given bits. Bit 0 is the least
-- significant. Every fact on bits goes through these two and their laws (proofs/BitLaws.antt), so no width needs one of
-- its own.
use Rattle.std.specs.Prelude.{ℕ, zero, suc, ◌+◌, ◌*◌, ◌/◌, ◌%◌, ◌^◌, Bool, true, false, eqb}

-- bit b of n
unfoldable pub bit : ℕ → ℕ → Bool
bit b n = eqb (n / 2 ^ b % 2) 1

abbrev pub digit : Bool → ℕ
digit true = 1
digit false = 0

-- the number of w bits whose bit b is f b
unfoldable pub number_of : ℕ → (ℕ → Bool) → ℕ
number_of zero f = 0
number_of (suc w) f = number_of w f + digit (f w) * 2 ^ w
