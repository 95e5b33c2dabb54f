-- `frames::enclose` meets its contract. Assumes nothing.
use native.Mathlib.Omega.{arith}
use mathlib.Core.Path.{sym, ◌∙◌}
use Rattle.frames.proofs.FrameLaws.{enclosed-short, enclosed-whole, enclosed-runs-on}
use Rattle.frames.proofs.enclose.Goals as goal
use Rattle.frames.proofs.enclose.Goals.{else-end-input-via-then-end-input+else-ends_at, else-end-input-via-else-end-input}

pub returns-in_err-end : goal.returns-in_err-end
returns-in_err-end c = c.from_residual.ensures ∙ sym (enclosed-short _ _ _ (omega arith))

pub returns-then-ends_at : goal.returns-then-ends_at
returns-then-ends_at c =
    let is = c.in_ok-end.ensures.1 in
    let a = c.args in
    let ends = rw is at (sym c.ends_at.ensures ∙ c.if-ends_at.true) in
    rw is (sym (enclosed-whole a.input.now a.start a.bytes (omega arith) ends))

pub returns-else-end-input : goal.returns-else-end-input
returns-else-end-input c =
    let is = c.in_ok-end.ensures.1 in
    elim c.else-end-input.branch [
      | else-end-input-via-then-end-input+else-ends_at w ↦ let runs_on = rw is at (sym w.ends_at.ensures ∙ w.if-ends_at.false) in sym (enclosed-runs-on _ _ _ runs_on)
      | else-end-input-via-else-end-input w ↦ sym (enclosed-short _ _ _ (omega arith))
    ]
