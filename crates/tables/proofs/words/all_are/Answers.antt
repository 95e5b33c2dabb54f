-- `tables::words::all_are` meets its contract: what is gathered so far is the definition at the counter.
use Prim.Native.Nat.{ℕ}
use native.Mathlib.Omega.{arith}
use lib.ListN.{take}
use mathlib.Core.Bool.{◌&&◌}
use mathlib.Core.Path.{◌∙◌, refl, sym, ap, ap₂}
use Rattle.std.specs.List.{list_all}
use Rattle.std.proofs.lemmas.List.Folds.{list_all_more}
use Rattle.std.proofs.Math.Seq.{take-length}
use Rattle.tables.proofs.words.all_are.Goals as goal

pub loop-x-init : goal.loop-x-init
loop-x-init g c = refl

pub loop-x-preserved : goal.loop-x-preserved
loop-x-preserved g c =
    let a = c.args in
    let l = c.loop-x in
    ap₂ ◌&&◌ l.invariant (c.eq-ok.ensures ∙ ap (λ y. g.T.PartialEq.eq y a.item) c.x-item.is)
    ∙ sym (list_all_more (λ y. g.T.PartialEq.eq y a.item) a.items.now l.x-index c.x-item.result c.loop-x-test.true)

pub returns : goal.returns
returns g c =
    let items = c.args.items.now in
    c.loop-x.invariant ∙ ap (λ (n : ℕ). list_all (λ y. g.T.PartialEq.eq y c.args.item) (take n items)) (omega arith)
    ∙ ap (list_all (λ y. g.T.PartialEq.eq y c.args.item)) (take-length items)
