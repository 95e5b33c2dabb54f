-- `details::holders::weight_in` meets its contract.
use native.Mathlib.Omega.{arith}
use Prim.Native.Nat.{ℕ, ◌≤◌, ◌*◌, ◌+◌}
use mathlib.Core.Path.{refl, sym, ap, subst, ◌∙◌}
use lib.ListN.{length}
use Rattle.std.specs.Prelude.{Option, IfSome}
use Rattle.tables.specs.Marks.{joined}
use Rattle.tables.specs.Tables.{piece_in, piece_bits}
use Rattle.details.specs.Holders.{behind}
use Rattle.details.proofs.HolderLaws.{weigh_on, weigh-first, piece_most}
use Rattle.details.proofs.holders.weight_in.Goals as goal
use Rattle.details.proofs.holders.weight_in.Goals.{in-Some, in-None}

pub loop-k-init : goal.loop-k-init
unfolding joined behind
loop-k-init c = record { is = refl; small = tt }

pub loop-k-preserved : goal.loop-k-preserved
loop-k-preserved c =
    let here = c.piece_at-piece.ensures.is in
    let bits = λ (at : ℕ). piece_bits (piece_in c.args.variables.now at) in
    let most = 4294967296 * (c.loop-k.k + 1) in
    elim c.match-weight.branch [
      | in-Some w ↦
          let above = rw w.in-Some.is at c.loop-k.invariant.small in
          record {
            is = w.weight-is ∙ weigh_on _ _ _ c.loop-k.invariant.is w.in-Some.is (w.piece_size.ensures.is ∙ ap (λ (at : ℕ). length (bits at)) here);
            small = subst (λ (o : Option ℕ). IfSome o (λ v. v ≤ most)) (sym w.weight-is) (omega (arith, above, w.piece_size.ensures.small));
          }
      | in-None w ↦
          let is = w.weight-is ∙ w.piece_weight-weight.ensures in
          record {
            is = is ∙ ap (λ (at : ℕ). behind c.args.number (bits at)) here ∙ weigh-first _ _ _ c.loop-k.invariant.is w.in-None.is;
            small =
                subst (λ (o : Option ℕ). IfSome o (λ v. v ≤ most)) (sym is)
                (piece_most c.args.variables.now c.piece_at-piece.result c.args.number most (c.type_inv.variables (c.piece_at-piece.result + 1)).fits (omega arith));
          }
    ]
