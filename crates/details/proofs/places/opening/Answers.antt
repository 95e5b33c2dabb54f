-- `details::places::opening` meets its contract.
use native.Mathlib.Omega.{arith}
use mathlib.Core.Path.{sym, ap, ◌∙◌}
use Prim.Native.Nat.{ℕ, ◌-◌, ◌+◌}
use mathlib.Core.Bool.{Bool, cond}
use lib.ListN.{length}
use Rattle.std.specs.Prelude.{Option, Some, None}
use Rattle.details.specs.Places.{opening_of, opening_from}
use Rattle.details.proofs.PlaceLaws.{opening-here, opening_on, opening-none}
use Rattle.details.proofs.places.opening.Goals as goal
use Rattle.details.proofs.places.opening.Goals.{then-declares, else-declares}

pub loop-init : goal.loop-init
unfolding opening_of
loop-init c = ap (λ (n : ℕ). opening_from c.args.text.now c.args.place n 0 None) (omega arith)

pub returns-then-place-start : goal.returns-then-place-start
returns-then-place-start c =
    opening-here _ _ _ c.scan_at-found.ensures c.place-start.ensures (length c.args.text.now - c.loop.counter) (omega (arith, c.loop-test.true)) c.if-place-start.true
    ∙ sym c.loop.invariant

pub loop-preserved : goal.loop-preserved
loop-preserved c =
    let left = length c.args.text.now - (c.loop.counter + 1) in
    let turn =
    c.loop.invariant
    ∙ opening_on _ _ _ c.scan_at-found.ensures c.place-start.ensures _ left _ (omega (arith, c.loop-test.true)) c.if-place-start.false c.kind.ensures c.declares.ensures in
    let on = λ (o : Option ℕ). opening_from c.args.text.now c.args.place left c.scan_at-found.result.next o in
    let by = λ (b : Bool). cond b (Some c.place-start.result) c.loop.last in
    elim c.if-declares.branch [
      | then-declares w ↦ turn ∙ ap on (ap by w.if-declares.true ∙ sym w.last-is)
      | else-declares w ↦ turn ∙ ap on (ap by w.if-declares.false ∙ sym w.last-is)
    ]

pub returns : goal.returns
returns c = opening-none _ _ _ (length c.args.text.now - c.loop.counter) (omega (arith, c.loop-test.false)) ∙ sym c.loop.invariant
