-- The premise that the read-back gains in 02, "registers with both parts have one mask for both, and all power-on
-- values obey their masks". Assumes nothing.
use Rattle.std.specs.Prelude.{ℕ, ◌<◌, ◌≡◌, true, List, get_or}
use Rattle.tables.specs.declared.Part.{Part}
use Rattle.tables.specs.declared.Part.TheVariants.{Read as reading, Write as writing}
use Rattle.tables.specs.View.{Tables, register_count, register_has, is_dot, is_fixed, is_one, obeys}

pub record Obedient (t : Tables) (power : List ℕ) : Type 0 where
  pub same-dots : (r b : ℕ) → r < register_count t → register_has t reading r ≡ true → register_has t writing r ≡ true → is_dot t reading r b ≡ is_dot t writing r b
  pub same-fixed : (r b : ℕ) → r < register_count t → register_has t reading r ≡ true → register_has t writing r ≡ true → is_fixed t reading r b ≡ is_fixed t writing r b
  pub same-ones : (r b : ℕ) → r < register_count t → register_has t reading r ≡ true → register_has t writing r ≡ true → is_one t reading r b ≡ is_one t writing r b
  pub at-power_on : (part : Part) (r : ℕ) → r < register_count t → register_has t part r ≡ true → obeys t part r (get_or power r 0) ≡ true
