-- `rules::lists::resolve` meets its contract.
use native.Mathlib.Omega.{arith}
use mathlib.Core.Path.{◌≡◌, refl, ◌∙◌, ap}
use Rattle.rules.specs.Fault.{or_else}
use Rattle.rules.specs.Lists.{unknown_in, pieces_on}
use Rattle.rules.proofs.FaultLaws.{is-none-of}
use Rattle.rules.proofs.ListLaws.{unknown-none, unknown-more, pieces_none, pieces_more}
use Rattle.rules.proofs.lists.resolve.Goals as goal

pub loop-k-init : goal.loop-k-init
loop-k-init c = record { known = unknown-none _ _ _ refl; stored = pieces_none _ _ _ _ }

pub loop-k-preserved : goal.loop-k-preserved
unfolding or_else
loop-k-preserved c =
    let so_far = c.loop-k.invariant in
    record {
      known =
          unknown-more _ _ _ _ so_far.known c.piece_named-found.ensures c.item-place.ensures (is-none-of _ c.is_none.ensures) c.fault_if.ensures c.or-fault.ensures;
      stored =
          pieces_more _ _ _ _ _ so_far.stored c.piece_named-found.ensures c.unwrap_or-register.ensures c.narrow.ensures c.high_of-high.ensures c.item-low.ensures
          c.store_piece.ensures;
    }

pub returns : goal.returns
returns c =
    let whole : c.loop-k.k ≡ c.args.count = omega arith in
    let so_far = c.loop-k.invariant in
    record { known = so_far.known ∙ ap (unknown_in _ _ _) whole; stored = so_far.stored ∙ ap (pieces_on _ _ _ _) whole }
