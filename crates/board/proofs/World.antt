-- The invariant in the worlds of demand 3: from an accepted opening on, whatever is called.
-- Assumes nothing.
use Prim.Native.Nat.{ℕ}
use mathlib.Core.Path.{◌≡◌}
use mathlib.Core.Bool.{true}
use mathlib.Core.List.{List}
use Rattle.tables.specs.View.{Tables, sound, Consistent}
use Rattle.tables.proofs.Consistent.{consistent}
use Rattle.board.specs.Board.{Call, opened}
use Rattle.board.specs.Demand.{Opening, power_on, world_after}
use Rattle.board.proofs.Steps.{InvW, opening-long, opened-holds, after-keeps}

module _ {t : Tables} {power : List ℕ} (o : Opening t power) where
  -- its tables are sound, and so consistent
  abbrev pub ok : sound t ≡ true
  ok = (opening-long sound t power o.lent o.accepted).0

  abbrev pub rules : Consistent t
  rules = consistent t ok

  pub start-holds : InvW sound t ok rules (power_on power) (opened sound t power o.lent)
  start-holds = opened-holds sound t ok rules power o.lent o.accepted o.numbers

  pub world-holds : (calls : List Call) → InvW sound t ok rules (power_on power) (world_after o calls)
  world-holds calls = after-keeps sound t ok rules (power_on power) calls (opened sound t power o.lent) start-holds
