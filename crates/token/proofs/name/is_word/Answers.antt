-- `token::name::is_word` meets its contract: the two tables say where word k stands among the bytes. Assumes nothing.
use Prim.Native.Nat.{◌+◌}
use mathlib.Core.Path.{ap, ◌∙◌}
use native.Mathlib.Omega.{arith}
use Rattle.token.specs.Bytes.{same}
use Rattle.token.specs.Word.{reserved}
use Rattle.token.proofs.Places.{part_of}
use Rattle.token.proofs.Words.{joined}
use Rattle.token.proofs.Slots.{word_fits, word-part, lengths}
use Rattle.token.proofs.name.is_word.Goals as goal

pub slice_bounds-is_same-end-2 : goal.slice_bounds-is_same-end-2
unfolding lengths reserved
slice_bounds-is_same-end-2 c = omega (arith, c.wide-start.ensures.0, c.wide.ensures.0, word_fits _ c.requires.2)

pub returns : goal.returns
unfolding lengths reserved joined
returns c =
    let x = c.args in
    let start = c.wide-start.result in
    let next = start + c.wide.result in
    let fits = word_fits _ c.requires.2 in
    c.is_same.ensures
    ∙ rw (part_of x.text.now x.place x.end (omega arith) c.requires.0, part_of (joined reserved) start next (omega (arith, c.wide-start.ensures.0, c.wide.ensures.0)) (omega arith))
    (ap (same _) (word-part _ c.requires.2 _ _ c.wide-start.ensures.0 c.wide.ensures.0))
