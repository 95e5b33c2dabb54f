-- `details::broken::first_shared` meets its contract.
use Rattle.std.proofs.Common.{◌≡◌, ℕ, ◌-◌, Option}
use Rattle.std.specs.Prelude.{is_some}
use Rattle.std.specs.List.{find, range_with_len}
use Rattle.details.specs.Search.{first}
use Rattle.details.proofs.broken.first_shared.Given as goal

abbrev pub invariant-loop-number : goal.invariant-loop-number
invariant-loop-number g l =
    (other : ℕ → Option ℕ) → ((n : ℕ) (told : Option ℕ) → goal.F-post g l.sharing n told → told ≡ other n)
    → first l.most (λ n. is_some (other n)) ≡ find (λ n. is_some (other n)) (range_with_len l.number (l.most - l.number))
