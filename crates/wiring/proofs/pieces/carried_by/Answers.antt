-- `wiring::pieces::carried_by` meets its contract: the invariant says that the pieces not yet seen decide; each turn is
-- one law of `carried_below`.
use mathlib.Core.Path.{◌∙◌, refl, sym}
use native.Mathlib.Omega.{arith}
use borrow.Author.Rules.{rules}
use Rattle.wiring.proofs.PieceLaws.{covers_low, covers_high, place_found, place-next, place_none}
use Rattle.wiring.proofs.pieces.carried_by.Goals as goal

pub loop-k-init : goal.loop-k-init
loop-k-init c = (omega (arith, c.requires.few), refl)

pub piece_at-piece-requires : goal.piece_at-piece-requires
piece_at-piece-requires c = record {
  usable = c.requires;
  k_bound = search rules;
}

pub overflow_sub-result : goal.overflow_sub-result
overflow_sub-result c =
    let a = c.args in
    omega (arith, covers_low c.piece_at-piece.result a.r a.b (sym c.covers_bit.ensures ∙ c.if-covers_bit.true))

pub overflow_add-result : goal.overflow_add-result
overflow_add-result c =
    let a = c.args in
    omega (arith, covers_high c.piece_at-piece.result a.r a.b (sym c.covers_bit.ensures ∙ c.if-covers_bit.true), c.piece_at-piece.ensures.small)

pub returns-then-covers_bit : goal.returns-then-covers_bit
returns-then-covers_bit c = sym (c.loop-k.invariant.1 ∙ place_found _ _ _ _ _ _ _ c.loop-k-test.true c.piece_at-piece.ensures.is (sym c.covers_bit.ensures ∙ c.if-covers_bit.true))

pub size_of-base-requires : goal.size_of-base-requires
size_of-base-requires c = c.piece_at-piece.ensures.small

pub loop-k-preserved : goal.loop-k-preserved
loop-k-preserved c = (omega arith, c.loop-k.invariant.1 ∙ place-next _ _ _ _ _ _ _ _ c.loop-k-test.true c.piece_at-piece.ensures.is (sym c.covers_bit.ensures ∙ c.if-covers_bit.false) c.size_of-base.ensures)

pub returns : goal.returns
returns c = sym (c.loop-k.invariant.1 ∙ place_none _ _ _ _ _ _ c.loop-k-test.false)
