-- `token::name::is_same` meets its contract: lists of one length are the same where the bytes after i equal ones are.
-- Assumes nothing.
use mathlib.Core.Path.{sym, ◌∙◌}
use native.Mathlib.Omega.{arith}
use Rattle.token.proofs.Same.{same-unlike, same-done, same_next, same_differs}
use Rattle.token.proofs.name.is_same.Goals as goal

pub returns-then-name-word : goal.returns-then-name-word
returns-then-name-word c = sym (same-unlike _ _ c.if-name-word.true)

pub loop-i-preserved : goal.loop-i-preserved
loop-i-preserved c = c.loop-i.invariant ∙ same_next _ _ _ c.loop-i-test.true (omega arith) c.if-name-i.false

pub returns : goal.returns
returns c = sym (c.loop-i.invariant ∙ same-done c.args.name.now c.args.word.now c.loop-i.i (omega arith) (omega arith))

pub returns-then-name-i : goal.returns-then-name-i
returns-then-name-i c = sym (c.loop-i.invariant ∙ same_differs _ _ _ c.loop-i-test.true (omega arith) c.if-name-i.true)
