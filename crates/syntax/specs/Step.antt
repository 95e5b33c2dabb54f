-- How far the reading has come: the next place, or the refusal that stopped it.
use Rattle.std.specs.Prelude.{ℕ, Result, Err}
use Rattle.token.specs.declared.Refusal.{Refusal}

abbrev pub Step : Type 0
Step = Result ℕ Refusal

abbrev pub refused_at : ℕ → ℕ → Step
refused_at number place = Err (record { number = number; place = place })

-- refusal 5
abbrev pub too_much_at : ℕ → Step
too_much_at place = refused_at 5 place
