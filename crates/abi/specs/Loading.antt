-- How words stand for the verdict of loading and for the answer of a lookup, and what the two calls promise.
-- Assumes nothing.
use Rattle.std.specs.Prelude.{ℕ, ◌^◌, ◌<◌, ◌≡◌, List, [], ◌∷◌, ◌++◌, ℤ, pos, negsuc, Option, Some, None}
use Rattle.std.proofs.Math.Option as number
use Rattle.std.proofs.Math.Option.{none, some}
use Rattle.loader.specs.Verdict.{Verdict}
use Rattle.loader.specs.Load.{Loaded, refusal_of, values_of}
use Rattle.abi.specs.Words.{written, or_zero}

-- 0, a refusal's number and its place, and 0; or 1 and the counts of parameters, registers and variables
abbrev pub told_by : number.Option ℕ → List ℕ → List ℕ
told_by (some number) values = 0 ∷ values ++ 0 ∷ []
told_by none values = 1 ∷ values

abbrev pub verdict_words : Verdict → List ℕ
verdict_words verdict = told_by (refusal_of verdict) (values_of verdict)

abbrev pub verdict_number : Verdict → ℕ
verdict_number verdict = or_zero (refusal_of verdict)

-- the verdict, told in lent words
pub record ToldVerdict (verdict : Verdict) (answer after : List ℕ) (number : ℕ) : Type 0 where
  pub answer-is : after ≡ written (verdict_words verdict) answer
  pub number_is : number ≡ verdict_number verdict

-- a load that comes to this, lent these words, leaves these tables and these words, and returns this number
pub record TellsLoaded (l : Loaded) (answer : List ℕ) (parameters registers variables after : List ℕ) (number : ℕ) : Type 0 where
  pub parameters-are : parameters ≡ l.tables.parameters
  pub registers-are : registers ≡ l.tables.registers
  pub variables-are : variables ≡ l.tables.variables
  pub told : ToldVerdict l.verdict answer after number

-- the variable found, and -1 for none
abbrev pub found_word : Option ℕ → ℤ
found_word (Some i) = pos i
found_word None = negsuc 0

-- an index that fits a word
abbrev pub Narrow : Option ℕ → Type 0
Narrow (Some i) = i < 2 ^ 32
Narrow None = Unit {0}
