-- A verdict as one line: `accepted P R V` or `refused N PLACE`, and a newline.
use Rattle.std.specs.Prelude.{ℕ, Ok, Err, zero, suc, ◌+◌, ◌≤◌, ◌/◌, ◌%◌, ◌≡◌, true, false, cond, List, [], ◌∷◌, ◌++◌, ltb, length, take}
use Rattle.std.proofs.lemmas.List.Edits.{sets}
use Rattle.token.specs.Bytes.{bytes}
use Rattle.loader.specs.Verdict.{Verdict, refused}
use Rattle.loader.specs.Load.{is_long, judged, verdict_of}

-- the digits of a number in front of what follows, `most` of them at most
unfoldable pub digits_before : ℕ → ℕ → List ℕ → List ℕ
digits_before zero n tail = tail
digits_before (suc most) n tail = elim (ltb n 10) [ true ↦ (48 + n) ∷ tail | false ↦ digits_before most (n / 10) ((48 + n % 10) ∷ tail) ]

-- a number in decimal; no number of the machine has more than twenty digits
unfoldable pub decimal : ℕ → List ℕ
decimal n = digits_before 20 n []

-- a word with a number after it
unfoldable pub numbered : List ℕ → ℕ → List ℕ
numbered word n = word ++ decimal n

unfoldable pub line_of : Verdict → List ℕ
line_of (Ok counts) =
    numbered (bytes "accepted ") counts.parameters ++ numbered (bytes " ") counts.registers ++ numbered (bytes " ") counts.variables ++ 10 ∷ []
line_of (Err r) = numbered (bytes "refused ") r.number ++ numbered (bytes " ") r.place ++ 10 ∷ []

-- what putting bytes into a buffer promises: they stand from `at` on, and `next` is the place behind them
pub record Put (before : List ℕ) (at : ℕ) (what after : List ℕ) (next : ℕ) : Type 0 where
  pub stored : after ≡ sets before at what
  pub behind : next ≡ at + length what

-- the verdict on a text in tables of their stated sizes
unfoldable pub verdict_on : List ℕ → Verdict
verdict_on text = cond (is_long text) (refused 2 0) (verdict_of (judged text))

-- the line on a text stands at the start of a buffer of eighty bytes, whole. The last part follows; it is stated so
-- that lending the line is proved by itself
pub record Line (text before after : List ℕ) (next : ℕ) : Type 0 where
  pub put : Put before 0 (line_of (verdict_on text)) after next
  pub whole : next ≤ length after
  pub counts : next ≡ length (take next after)
