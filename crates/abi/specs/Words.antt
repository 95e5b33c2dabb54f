-- How words stand for an operation and for an answer, where a caller has no enums.
-- Assumes nothing.
use Rattle.std.specs.Prelude.{ℕ, ◌^◌, cond, List, [], ◌∷◌, eqb, ltb, ℤ, pos, length, get_or}
use Rattle.std.proofs.Math.Option.{Option, none, some}
use Rattle.tables.specs.View.{part_no}
use Rattle.station.specs.declared.Operation.{Operation}
use Rattle.station.specs.declared.Operation.TheVariants.{Idle, Reading, Writing}
use Rattle.station.specs.declared.Answer.{Answer}
use Rattle.station.specs.declared.Answer.TheVariants.{Refused, Stopped, Opened, Offer as Offered, Done, Abandoned as Ended}
use Rattle.station.specs.Answers.{refusal_of}

-- words written from a list's front on; those that it has no room for are lost, and what lies behind them stays
unfoldable pub written : {A : Type 0} → List A → List A → List A
written [] lent = lent
written (word ∷ words) [] = []
written (word ∷ words) (old ∷ lent) = word ∷ written words lent

-- ── the operation in hand: its kind (0 none, 1 a read, 2 a write), the variable, the step, and the bits gathered or to
-- be written ──

abbrev pub operation_words : Operation → List ℕ
operation_words Idle = 0 ∷ 0 ∷ 0 ∷ 0 ∷ []
operation_words (Reading variable step gathered) = 1 ∷ variable ∷ step ∷ gathered ∷ []
operation_words (Writing variable step value) = 2 ∷ variable ∷ step ∷ value ∷ []

-- words that are no operation stand for the read of a variable that no tables have: it is not one that these tables
-- allow (22)
abbrev pub no_operation : Operation
no_operation = Reading (2 ^ 32) 0 0

unfoldable pub of_kind : ℕ → ℕ → ℕ → ℕ → Operation
of_kind kind variable step bits =
    cond (eqb kind 0) Idle
    (cond (eqb kind 1) (Reading variable step bits)
    (cond (eqb kind 2) (Writing variable step bits)
    no_operation))

unfoldable pub operation_of : List ℕ → Operation
operation_of words = cond (ltb (length words) 4) no_operation (of_kind (get_or words 0 0) (get_or words 1 0) (get_or words 2 0) (get_or words 3 0))

-- ── the answer: its kind, then what it gives, and 0 in the words that it does not need ──

abbrev pub answer_words : Answer → List ℤ
answer_words (Refused number) = pos 0 ∷ pos number ∷ pos 0 ∷ pos 0 ∷ pos 0 ∷ []
answer_words Opened = pos 1 ∷ pos 0 ∷ pos 0 ∷ pos 0 ∷ pos 0 ∷ []
answer_words (Offered access) = pos 2 ∷ pos (part_no access.direction) ∷ pos access.parameter ∷ pos access.offset ∷ pos access.byte ∷ []
answer_words (Done value accesses) = pos 3 ∷ value ∷ pos accesses ∷ pos 0 ∷ pos 0 ∷ []
answer_words Ended = pos 4 ∷ pos 0 ∷ pos 0 ∷ pos 0 ∷ pos 0 ∷ []
answer_words (Stopped number register) = pos 5 ∷ pos number ∷ pos register ∷ pos 0 ∷ pos 0 ∷ []

-- the number that document 01 or 02 gives a refusal, and 0 where there is none
abbrev pub or_zero : Option ℕ → ℕ
or_zero none = 0
or_zero (some number) = number

abbrev pub refusal_number : Answer → ℕ
refusal_number answer = or_zero (refusal_of answer)
