-- The modifiers `read` (1) and `write` (2): the same pairings for ports and for bit lists, and the same count of masks
-- and of triggers for a part.
use Rattle.std.specs.Prelude.{ℕ, ◌+◌, Bool, ◌&&◌, ◌||◌, cond, eqb, leb}

-- one alone with any modifier, or one `read` and one `write` in either order
unfoldable pub are_paired : (alone : Bool) → (first second : ℕ) → Bool
are_paired alone first second = alone || (eqb first 1 && eqb second 2) || (eqb first 2 && eqb second 1)

-- for a part: at most one, a bare one counting too; none of its own where the part is missing
unfoldable pub at_most_one : (present : Bool) → (bare own : ℕ) → Bool
at_most_one present bare own = cond present (leb (bare + own) 1) (eqb own 0)
