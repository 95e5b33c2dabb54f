-- An offset as it is written, and the words of a part.
use Prim.Native.Nat.{ℕ}
use mathlib.Core.Path.{◌≡◌, refl, ap, ◌∙◌}
use mathlib.Core.Bool.{Bool, true, false, ◌&&◌}
use lib.IntN.{ℤ, pos, negsuc, nat_abs}
use mir.Syntax.{w32}
use mir.Val.{SFits}
use native.Mathlib.Omega.{arith}
use lib.ListN.{length}
use Rattle.std.specs.Prelude.{Option, Some, None, Result, Ok, Err, MatchOption, OkIff, is_some, unwrap_or}
use Rattle.std.specs.Int.{FitsUnsignedBits}
use Rattle.std.specs.Result.{result_ok}
use Rattle.expression.specs.Value.{Worth}
use Rattle.rules.specs.declared.mask.Mask.{Mask}
use Rattle.rules.specs.Register.{natural_in, part_entry}

pub natural-is : {P : ℤ → Type 0} (worth : Worth) {r : Option ℕ} → MatchOption worth (r ≡ None) P → ((z : ℤ) → P z → r ≡ natural_in (Some z)) → r ≡ natural_in worth
unfolding natural_in
natural-is None h k = h
natural-is (Some z) h k = k z h

pub natural-tried : {E : Type 0} (z : ℤ) {y : ℤ} (r : Result ℕ E) {o : Option ℕ} → SFits w32 z → y ≡ z
    → OkIff r (FitsUnsignedBits 64 y) (nat_abs y) → o ≡ result_ok r → o ≡ natural_in (Some z)
unfolding natural_in
natural-tried (pos n) (Ok x) f e h i = i ∙ ap Some ((rw e at h).1)
natural-tried (pos n) (Err why) f e h i = absurd ((rw e at h) (omega (arith, f.sfits)))
natural-tried (negsuc n) (Ok x) f e h i = absurd ((rw e at h).0)
natural-tried (negsuc n) (Err why) f e h i = i

pub some-and : {P : ℕ → Type 0} (o : Option ℕ) (f : ℕ → Bool) {b : Bool} → MatchOption o (b ≡ false) P → ((n : ℕ) → P n → b ≡ f n)
    → b ≡ (is_some o && f (unwrap_or o 0))
some-and None f h k = h
some-and (Some n) f h k = k n h

-- the words of a part are six
pub part_length : (present : Bool) (index offset : ℕ) (mask : Mask) → length (part_entry present index offset mask) ≡ 6
unfolding part_entry
part_length true index offset mask = refl
part_length false index offset mask = refl
