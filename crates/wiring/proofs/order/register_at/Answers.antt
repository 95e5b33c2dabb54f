-- `wiring::order::register_at` meets its contract: the pieces passed have named `seen` registers, the one asked for not
-- among them; later pieces only add at the end.
use Prim.Native.Nat.{ℕ, ◌+◌, ◌≤◌}
use mathlib.Core.Path.{◌≡◌, ◌∙◌, sym, ap}
use native.Mathlib.Omega.{arith}
use lib.Arith.{lt_of_le-ne}
use lib.ListN.{get_or-eq_default, length}
use borrow.Author.Rules.{rules}
use Rattle.wiring.specs.Order.{registers_to}
use Rattle.wiring.proofs.OrderLaws.{registers-none, registers-old, length-new, access-found}
use Rattle.wiring.proofs.order.register_at.Goals as goal
use Rattle.wiring.proofs.order.register_at.Goals.{then-not-mentioned+else-seen-n, else-not-mentioned}

pub loop-k-init : goal.loop-k-init
loop-k-init c = (search rules, search rules, sym (ap length (registers-none _ _)))

pub piece_at-piece-requires : goal.piece_at-piece-requires
piece_at-piece-requires c = record {
  usable = c.requires;
  k_bound = search rules;
}

pub mentioned-requires : goal.mentioned-requires
mentioned-requires c = record {
  usable = c.requires;
  k_bound = search rules;
}

pub returns-then-seen-n : goal.returns-then-seen-n
returns-then-seen-n c = sym (access-found _ _ _ _ _ _ c.loop-k-test.true c.piece_at-piece.ensures.is (sym c.mentioned.ensures ∙ c.if-not-mentioned.true) (sym c.loop-k.invariant.2 ∙ c.if-seen-n.true))

pub loop-k-preserved : goal.loop-k-preserved
loop-k-preserved c =
    elim c.if-not-mentioned.branch [
      | then-not-mentioned+else-seen-n w ↦
          let l = lt_of_le-ne c.loop-k.invariant.0 w.if-seen-n.false in
          (omega (arith, w.seen-is), omega (arith, w.seen-is), w.seen-is ∙ ap (λ (n : ℕ). n + 1) c.loop-k.invariant.2 ∙ sym (length-new _ _ _ _ c.piece_at-piece.ensures.is (sym c.mentioned.ensures ∙ w.if-not-mentioned.true)))
      | else-not-mentioned w ↦ (omega (arith, w.seen-is), omega (arith, w.seen-is), w.seen-is ∙ c.loop-k.invariant.2 ∙ ap length (sym (registers-old _ _ _ _ c.piece_at-piece.ensures.is (sym c.mentioned.ensures ∙ w.if-not-mentioned.false))))
    ]

pub returns : goal.returns
returns c =
    let a = c.args in
    let order = registers_to a.variables.now a.part a.part.count in
    let end : c.loop-k.k ≡ a.part.count = omega arith in
    let e = c.loop-k.invariant.2 ∙ ap (λ (n : ℕ). length (registers_to a.variables.now a.part n)) end in
    let short : length order ≤ a.n = omega (arith, e) in
    sym (get_or-eq_default order 0 short)
