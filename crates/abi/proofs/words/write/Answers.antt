-- `abi::words::write` meets its contract: the words told so far are written.
use Prim.Native.Nat.{ℕ, suc, ◌+◌}
use mathlib.Core.Path.{◌≡◌, ◌∙◌, ap, refl, sym}
use mathlib.Core.List.{List}
use native.Mathlib.Omega.{arith}
use lib.ListN.{set, take}
use lib.Seq.{take_all}
use Rattle.abi.specs.Words.{written}
use Rattle.abi.proofs.WordLaws.{written-on, written-lost}
use Rattle.abi.proofs.words.write.Goals as goal
use Rattle.abi.proofs.words.write.Goals.{then-i-words, else-i-words}

pub loop-i-init : goal.loop-i-init
unfolding written
loop-i-init g c = refl

pub loop-i-preserved : goal.loop-i-preserved
loop-i-preserved g c =
    let told = c.args.told.now in
    let lent = c.args.words.now in
    let here = c.loop-i.i in
    let next : suc here ≡ here + 1 = omega arith in
    let then : written (take (suc here) told) lent ≡ written (take (here + 1) told) lent = ap (λ (n : ℕ). written (take n told) lent) next in
    elim c.if-i-words.branch [
      | then-i-words w ↦
          w.words-is
          ∙ ap (λ (l : List g.row.T.Denot). set l here w.index-told-i.result) c.loop-i.invariant
          ∙ sym (written-on told lent here c.loop-i-test.true w.index-told-i.is)
          ∙ then
      | else-i-words w ↦ w.words-is ∙ c.loop-i.invariant ∙ sym (written-lost told lent here (omega (arith, w.if-i-words.false, c.loop-i.auto.words))) ∙ then
    ]

pub returns : goal.returns
returns g c = c.loop-i.invariant ∙ ap (λ (l : List g.row.T.Denot). written l c.args.words.now) (take_all _ _ c.loop-i-test.false)
