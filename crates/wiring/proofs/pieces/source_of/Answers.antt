-- `wiring::pieces::source_of` meets its contract: as `carried_by`, with the laws of `source_below`.
use mathlib.Core.Path.{◌∙◌, refl, sym}
use borrow.Author.Rules.{rules}
use Rattle.wiring.proofs.PieceLaws.{source-found, source-next, source-none}
use Rattle.wiring.proofs.pieces.source_of.Goals as goal

pub loop-k-init : goal.loop-k-init
loop-k-init c = refl

pub piece_at-piece-requires : goal.piece_at-piece-requires
piece_at-piece-requires c = record {
  usable = c.requires;
  k_bound = search rules;
}

pub size_of-size-requires : goal.size_of-size-requires
size_of-size-requires c = c.piece_at-piece.ensures.small

pub returns-then-left-size : goal.returns-then-left-size
returns-then-left-size c = sym (c.loop-k.invariant ∙ source-found _ _ _ _ _ _ c.loop-k-test.true c.piece_at-piece.ensures.is c.size_of-size.ensures c.if-left-size.true)

pub loop-k-preserved : goal.loop-k-preserved
loop-k-preserved c = c.loop-k.invariant ∙ source-next _ _ _ _ _ _ c.loop-k-test.true c.piece_at-piece.ensures.is c.size_of-size.ensures c.if-left-size.false

pub returns : goal.returns
returns c = sym (c.loop-k.invariant ∙ source-none _ _ _ _ c.loop-k-test.false)
