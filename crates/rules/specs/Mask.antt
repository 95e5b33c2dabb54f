-- Masks. 02, No. 6: "masks and bit numbers follow": a mask has as many elements as the register has bits, the rightmost
-- for bit 0. The tables hold one as three numbers: which bits are dots, which are fixed, and which are fixed at 1.
use Rattle.std.specs.Prelude.{ℕ, ◌+◌, ◌-◌, ◌^◌, min, Bool, ◌||◌, List, eqb, get_or, Option, Some, None}
use Prim.Native.Char.{code}
use Rattle.bits.specs.Bits.{number_of}
use Rattle.bits.specs.Widths.{widest}
use Rattle.rules.specs.declared.mask.Mask.{Mask}
use Rattle.rules.specs.Names.{name_of}

-- what an element of a mask may be: a dot, `0` or `1`, or `1`
abbrev pub is_dot : ℕ → Bool
is_dot byte = eqb byte (code ".")

abbrev pub is_fixed : ℕ → Bool
is_fixed byte = eqb byte (code "0") || eqb byte (code "1")

abbrev pub is_one : ℕ → Bool
is_one byte = eqb byte (code "1")

-- how many bits the numbers of a mask have: one for each element, as far as a register may be wide (a stated width may
-- be any number: 12 comes after 9 and 10)
unfoldable pub bits_held : ℕ → ℕ
bits_held w = min w widest

-- the bits at which such an element stands, in a mask of w elements with its opening quote
unfoldable pub elements : ℕ → List ℕ → (ℕ → Bool) → ℕ
elements w mask is_element = number_of (bits_held w) (λ b. is_element (get_or mask (w - b) 0))

unfoldable pub mask_of : ℕ → List ℕ → Mask
mask_of w mask = record { dots = elements w mask is_dot; fixed = elements w mask is_fixed; ones = elements w mask is_one }

-- without a mask every bit is a dot
unfoldable pub all_dots : ℕ → Mask
all_dots w = record { dots = 2 ^ bits_held w - 1; fixed = 0; ones = 0 }

-- the mask of w elements whose opening quote stands in the text, where one is given
unfoldable pub mask_at : List ℕ → ℕ → Option ℕ → Mask
mask_at text w (Some quote) = mask_of w (name_of text quote (w + 1))
mask_at text w None = all_dots w
