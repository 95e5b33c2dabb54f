-- A call that keeps the station's promise, and is told in words, keeps the promise of the C face.
-- Assumes nothing.
use Prim.Native.Nat.{ℕ}
use mathlib.Core.Path.{◌≡◌, ◌∙◌, sym, ap, ap₂, subst}
use mathlib.Core.List.{List}
use lib.IntN.{ℤ}
use Rattle.station.specs.declared.Operation.{Operation}
use Rattle.station.specs.declared.Answer.{Answer}
use Rattle.station.specs.declared.Outcome as Code
use Rattle.station.specs.Calls.{Outcome}
use Rattle.station.specs.Promise.{Meets}
use Rattle.abi.specs.Words.{written, answer_words, refusal_number}
use Rattle.abi.specs.Told.{operation_left, Tells, Told, Small}

-- the call, as a function of the operation in hand, which words stood for
module _ (call : Operation → Outcome) {taken stood : Operation} (same : taken ≡ stood)
    {kept marks : List ℕ} {given : Code.Outcome} (meets : Meets (call taken) kept marks given) where
  pub tells : {operation after : List ℕ} {answer words : List ℤ} {number : ℕ}
      → Told given.answer given.operation operation answer after words number
      → Tells (call stood) operation answer kept marks after words number
  tells {operation} {after} {answer} {words} {number} told =
      subst (λ (o : Operation). Tells (call o) operation answer kept marks after words number) same
      (record {
        kept-is = meets.kept-is;
        marks-is = meets.marks-is;
        operation-is = told.operation-is ∙ ap₂ (λ (a : Answer) (o : Operation). operation_left a o operation) meets.answer-is meets.operation-is;
        answer-is = told.answer-is ∙ ap (λ (a : Answer). written (answer_words a) answer) meets.answer-is;
        number_is = told.number_is ∙ ap refusal_number meets.answer-is;
      })

pub small_by : {o : Outcome} {kept marks : List ℕ} {given : Code.Outcome} → Meets o kept marks given → Small o.answer → Small given.answer
small_by meets small = subst Small (sym meets.answer-is) small
