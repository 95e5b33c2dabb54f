-- The values of a kind and a width w, and the patterns of w bits that carry them. Kind 1 is `signed int`, two's
-- complement;
-- `int` (0) and `bool` (2) are natural numbers.
use Rattle.std.specs.Prelude.{ℕ, ◌-◌, ◌/◌, ◌^◌, Bool, cond, ◌&&◌, ltb, eqb, Option, ℤ, pos, negsuc, neg_ℤ}
use Rattle.std.specs.Bool.{then_some}
use Rattle.std.proofs.Math.IntN.{pred_ℤ}
use Rattle.std.specs.Int.Signed.{lt_z}

-- the first natural number that the kind of value does not have
abbrev pub limit_of : ℕ → ℕ → ℕ
limit_of kind w = cond (eqb kind 1) (2 ^ w / 2) (2 ^ w)

-- the least value of a kind and its greatest: a signed kind has as many values below 0 as from 0 on
abbrev pub least : ℕ → ℕ → ℤ
least kind w = cond (eqb kind 1) (neg_ℤ (pos (limit_of kind w))) (pos 0)

abbrev pub greatest : ℕ → ℕ → ℤ
greatest kind w = pred_ℤ (pos (limit_of kind w))

unfoldable pub is_below_lem : ℕ → ℕ → ℤ → Bool
is_below_lem kind w z = lt_z z (least kind w)

unfoldable pub is_above : ℕ → ℕ → ℤ → Bool
is_above kind w z = lt_z (greatest kind w) z

-- the range between them, by the sign: `negsuc m` is -(m + 1)
unfoldable pub in_range : ℕ → ℕ → ℤ → Bool
in_range kind w (pos m) = ltb m (limit_of kind w)
in_range kind w (negsuc m) = eqb kind 1 && ltb m (limit_of kind w)

-- the bits that carry a value in range, and the value that a number below 2 ^ w carries
unfoldable pub encode : ℕ → ℤ → ℕ
encode w (pos m) = m
encode w (negsuc m) = 2 ^ w - 1 - m

unfoldable pub decode : ℕ → ℕ → ℕ → ℤ
decode kind w x = cond (ltb x (limit_of kind w)) (pos x) (negsuc (2 ^ w - 1 - x))

-- the pattern, or that there is none
unfoldable pub encoded : ℕ → ℕ → ℤ → Option ℕ
encoded kind w z = then_some (in_range kind w z) (encode w z)
