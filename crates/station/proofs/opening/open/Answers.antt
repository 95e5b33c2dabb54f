-- `station::opening::open` meets its contract.
use Prim.Native.Nat.{ℕ}
use mathlib.Core.Path.{◌≡◌, ◌∙◌, ap, ap₂, sym, refl}
use mathlib.Core.List.{List, ◌++◌}
use lib.ListN.{length, drop, replicate}
use Rattle.std.proofs.lemmas.List.{length-take-le}
use Rattle.tables.specs.Words.{word_at}
use Rattle.station.specs.Standing.{tables_of}
use Rattle.station.specs.Station.{state_of}
use Rattle.station.proofs.CallLaws.{opens}
use Rattle.station.proofs.Cuts.{numbers-are}
use Rattle.station.proofs.Meeting.{meets-refused, meets-passed}
use Rattle.station.proofs.Bridge.{open_is}
use Rattle.station.proofs.opening.open.Goals as goal

pub returns-in-Err : goal.returns-in-Err
returns-in-Err c =
    let t = tables_of c.args.parameters.now c.args.registers.now c.args.variables.now in
    let s = state_of c.args.held.now c.args.marks.now c.args.operation in
    meets-refused s _ (open_is t c.args.power.now s) c.check_opening.ensures c.in-Err.is c.refused.ensures

pub slice_bounds-take_numbers-end : goal.slice_bounds-take_numbers-end
slice_bounds-take_numbers-end c =
    let t = tables_of c.args.parameters.now c.args.registers.now c.args.variables.now in
    rw c.word.ensures.is (opens t _ _ _ c.check_opening.ensures c.in_default.is).held-long

pub slice_bounds-take_numbers-end-2 : goal.slice_bounds-take_numbers-end-2
slice_bounds-take_numbers-end-2 c =
    let t = tables_of c.args.parameters.now c.args.registers.now c.args.variables.now in
    sym (length-take-le _ _ (rw c.word.ensures.is (opens t _ _ _ c.check_opening.ensures c.in_default.is).held-long))

pub slice_bounds-fill-end : goal.slice_bounds-fill-end
slice_bounds-fill-end c =
    let t = tables_of c.args.parameters.now c.args.registers.now c.args.variables.now in
    rw c.word-2.ensures.is (opens t _ _ _ c.check_opening.ensures c.in_default.is).marks-long

pub slice_bounds-fill-end-2 : goal.slice_bounds-fill-end-2
slice_bounds-fill-end-2 c =
    let t = tables_of c.args.parameters.now c.args.registers.now c.args.variables.now in
    sym (length-take-le _ _ (rw c.word-2.ensures.is (opens t _ _ _ c.check_opening.ensures c.in_default.is).marks-long))

pub returns : goal.returns
returns c =
    let t = tables_of c.args.parameters.now c.args.registers.now c.args.variables.now in
    let s = state_of c.args.held.now c.args.marks.now c.args.operation in
    let clear = opens t _ _ _ c.check_opening.ensures c.in_default.is in
    let long : length c.take_numbers.new.held ≡ word_at c.args.registers.now 0 =
    c.take_numbers.auto.held ∙ length-take-le _ _ (rw c.word.ensures.is clear.held-long) ∙ c.word.ensures.is in
    let numbers = numbers-are t c.args.power.now _ _ long c.take_numbers.ensures in
    let cleared : c.fill.new.self ≡ replicate (word_at c.args.variables.now 0) 0 =
    c.fill.ensures.after (λ y e. e) ∙ ap (λ (n : ℕ). replicate n 0) (length-take-le _ _ (rw c.word-2.ensures.is clear.marks-long) ∙ c.word-2.ensures.is) in
    meets-passed s _ (open_is t c.args.power.now s) c.check_opening.ensures c.in_default.is refl (record {
      outcome-is = c.over.ensures;
      held-is = ap₂ (λ (l : List ℕ) (n : ℕ). l ++ drop n c.args.held.now) numbers c.word.ensures.is;
      marks-is = ap₂ (λ (l : List ℕ) (n : ℕ). l ++ drop n c.args.marks.now) cleared c.word-2.ensures.is;
    })
