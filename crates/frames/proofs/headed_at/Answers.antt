-- `frames::headed_at` meets its contract. Assumes nothing.
use native.Mathlib.Omega.{arith}
use mathlib.Core.Path.{◌∙◌, sym, subst}
use borrow.Author.Tests.{le-leb}
use Rattle.script.proofs.WordLaws.{line_on, line-inside}
use Rattle.std.specs.Prelude.{Option, Some, None, IfSome}
use Rattle.frames.specs.declared.Frame.{Frame}
use Rattle.frames.specs.Frames.{headed_at, framed, Lies}
use Rattle.frames.proofs.FrameLaws.{frame-within, headed-framed}
use Rattle.frames.proofs.headed_at.Goals as goal

pub returns-then-input-at-clause-found : goal.returns-then-input-at-clause-found
unfolding headed_at
returns-then-input-at-clause-found c = rw (le-leb _ _ c.if-input-at.true, headed_at)

pub slice_bounds-length_of-count : goal.slice_bounds-length_of-count
slice_bounds-length_of-count c = rw c.line_end-end.ensures (line_on _ _)

pub slice_bounds-length_of-start : goal.slice_bounds-length_of-start
slice_bounds-length_of-start c = rw c.line_end-end.ensures (line_on _ _)

pub slice_bounds-length_of-end : goal.slice_bounds-length_of-end
slice_bounds-length_of-end c = rw c.line_end-end.ensures (line-inside c.args.input.now c.args.at (omega arith))

pub returns-in_err-bytes-clause-found : goal.returns-in_err-bytes-clause-found
unfolding framed
returns-in_err-bytes-clause-found c = c.from_residual.ensures ∙ headed-framed _ _ _ _ None c.if-input-at.false c.line_end-end.ensures c.in_err-bytes.ensures

pub returns-clause-found : goal.returns-clause-found
unfolding framed
returns-clause-found c = c.enclose.ensures ∙ headed-framed _ _ _ _ (Some c.in_ok-bytes.bytes) c.if-input-at.false c.line_end-end.ensures c.in_ok-bytes.ensures

pub returns-clause-within : goal.returns-clause-within
unfolding framed
returns-clause-within c =
    let found = c.enclose.ensures ∙ headed-framed _ _ _ _ (Some c.in_ok-bytes.bytes) c.if-input-at.false c.line_end-end.ensures c.in_ok-bytes.ensures in
    subst (λ (o : Option Frame). IfSome o (Lies c.args.input.now c.args.at)) (sym found) (frame-within _ _ _)
