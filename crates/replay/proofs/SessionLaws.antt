-- What a line leaves and answers, from what the station's call does. Assumes nothing.
use mathlib.Core.Bool.{Bool, ◌||◌}
use mathlib.Core.List.{List, ◌++◌}
use mathlib.Core.Path.{◌≡◌, ◌∙◌}
use Prim.Native.Nat.{ℕ}
use lib.ListN.{length, take, drop}
use Rattle.tables.specs.Words.{word_at}
use Rattle.tables.specs.View.{Tables}
use Rattle.station.specs.Promise.{lent}
use Rattle.calibrated.specs.declared.OutcomeInUnits.{OutcomeInUnits}
use Rattle.calibrated.specs.Readings.{MeetsInUnits}
use Rattle.replay.specs.declared.call.Request.{Request}
use Rattle.replay.specs.declared.session.Session.{Session}
use Rattle.replay.specs.declared.session.Turn.{Turn}
use Rattle.replay.specs.Sessions.{lent_of, is_opening, answered, told_to, After, Leaves, held_by, marked_by, asked_with, asked}

module _ (t : Tables) (power kept marks : List ℕ) (session : Session) (request : Request) where
  -- as much is lent as the code counts
  module _
      (opens : Bool) (registers variables held marked : ℕ)
      (is-opens : opens ≡ is_opening request)
      (is-registers : registers ≡ word_at t.registers 0) (is-variables : variables ≡ word_at t.variables 0)
      (is_held_lem : held ≡ lent_of (session.opened || opens) session.bytes registers (length kept))
      (is-marked : marked ≡ lent_of (session.opened || opens) session.marks variables (length marks))
    where
      held-right : held ≡ held_by t kept session request
      held-right = is_held_lem ∙ rw (is-opens, is-registers)

      marked-right : marked ≡ marked_by t marks session request
      marked-right = is-marked ∙ rw (is-opens, is-variables)

      pub asked-as : asked t power kept marks session request ≡ asked_with t power kept marks session request held marked
      unfolding asked
      asked-as = rw (held-right, marked-right)

  -- and the station's call leaves and answers the rest
  pub asks :
      (held marked : ℕ) (after : After) → after ≡ asked_with t power kept marks session request held marked
      → (kept' marks' : List ℕ) (given : OutcomeInUnits) (turn : Turn)
      → MeetsInUnits (told_to t power (lent (take held kept) (take marked marks) session.operation) session.scale request) kept' marks' given
      → turn ≡ answered session request given.answer given.operation
      → Leaves after (kept' ++ drop held kept) (marks' ++ drop marked marks) turn
  unfolding asked_with
  asks held marked after is kept' marks' given turn meets is-turn =
      rw is
      (record {
        turn_is = is-turn ∙ rw (meets.answer-is, meets.operation-is);
        kept-is = rw meets.kept-is;
        marks-is = rw meets.marks-is;
      })
