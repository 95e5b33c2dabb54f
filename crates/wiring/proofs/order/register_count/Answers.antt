-- `wiring::order::register_count` meets its contract: the pieces passed have named `seen` registers.
use Prim.Native.Nat.{ℕ, ◌+◌}
use mathlib.Core.Path.{◌∙◌, sym, ap}
use native.Mathlib.Omega.{arith}
use borrow.Author.Rules.{rules}
use lib.ListN.{length}
use Rattle.wiring.specs.Order.{registers_to}
use Rattle.wiring.proofs.OrderLaws.{registers-none, registers-old, length-new}
use Rattle.wiring.proofs.order.register_count.Goals as goal
use Rattle.wiring.proofs.order.register_count.Goals.{then-not-mentioned, else-not-mentioned}

pub loop-k-init : goal.loop-k-init
loop-k-init c = (search rules, sym (ap length (registers-none _ _)))

pub piece_at-piece-requires : goal.piece_at-piece-requires
piece_at-piece-requires c = record {
  usable = c.requires;
  k_bound = search rules;
}

pub mentioned-requires : goal.mentioned-requires
mentioned-requires c = record {
  usable = c.requires;
  k_bound = search rules;
}

pub loop-k-preserved : goal.loop-k-preserved
loop-k-preserved c =
    elim c.if-not-mentioned.branch [
      | then-not-mentioned w ↦ (omega (arith, w.seen-is), w.seen-is ∙ ap (λ (n : ℕ). n + 1) c.loop-k.invariant.1 ∙ sym (length-new _ _ _ _ c.piece_at-piece.ensures.is (sym c.mentioned.ensures ∙ w.if-not-mentioned.true)))
      | else-not-mentioned w ↦ (omega (arith, w.seen-is), w.seen-is ∙ c.loop-k.invariant.1 ∙ ap length (sym (registers-old _ _ _ _ c.piece_at-piece.ensures.is (sym c.mentioned.ensures ∙ w.if-not-mentioned.false))))
    ]

pub returns : goal.returns
returns c =
    let a = c.args in
    c.loop-k.invariant.1 ∙ ap (λ (n : ℕ). length (registers_to a.variables.now a.part n)) (omega arith)
