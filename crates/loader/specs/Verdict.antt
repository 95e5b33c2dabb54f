-- What loading answers: accepted, with the counts of what the text declares; or refused, by a number and with a place.
use Rattle.std.specs.Prelude.{ℕ, Result, Ok, Err}
use Rattle.loader.specs.declared.verdict.Counts.{Counts}
use Rattle.loader.specs.declared.verdict.Refused.{Refused}

abbrev pub Verdict : Type 0
Verdict = Result Counts Refused

abbrev pub accepted : ℕ → ℕ → ℕ → Verdict
accepted parameters registers variables = Ok (record { parameters = parameters; registers = registers; variables = variables })

abbrev pub refused : ℕ → ℕ → Verdict
refused number place = Err (record { number = number; place = place })
