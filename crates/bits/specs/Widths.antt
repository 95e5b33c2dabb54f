-- 02, No. 6: "A port parameter and its registers may have width 8, 16 or 32". Here alone it stands which widths there
-- are: every other statement on masks and bits is over the width, or names `widest`.
use Rattle.std.specs.Prelude.{ℕ, Bool, ◌||◌, eqb}

-- the most bits that a register or (01: "32 bits in a variable") a variable has
abbrev pub widest : ℕ
widest = 32

unfoldable pub is_width : ℕ → Bool
is_width w = eqb w 8 || eqb w 16 || eqb w widest
