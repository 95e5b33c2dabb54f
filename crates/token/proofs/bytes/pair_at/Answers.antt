-- `token::bytes::pair_at` meets its contract. Assumes nothing.
use native.Mathlib.Omega.{arith}
use mathlib.Core.Path.{sym}
use Rattle.token.proofs.GapSteps.{starts-short, starts-here}
use Rattle.token.proofs.bytes.pair_at.Goals as goal

pub returns-then-text-i : goal.returns-then-text-i
returns-then-text-i c = sym (starts-short _ _ c.args.text.now c.args.i (omega arith))

pub returns-then-text-j : goal.returns-then-text-j
returns-then-text-j c = sym (starts-short _ _ _ _ c.if-text-j.true)

pub returns : goal.returns
returns c = sym (starts-here _ _ _ _ c.if-text-j.false)
