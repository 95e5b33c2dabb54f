-- `rules::names::ends_alike` meets its contract: a name that an entry records agrees with it in length and last byte.
use Rattle.rules.proofs.NameLaws.{unnamed}
use native.Mathlib.Omega.{arith}
use borrow.Author.Tests.{eqb-false}
use mathlib.Core.Path.{◌∙◌, ap}
use Prim.Native.Nat.{ℕ, ◌+◌, ◌-◌}
use lib.ListN.{get_or, length}
use Rattle.rules.proofs.names.ends_alike.Goals as goal

pub returns-then-word-length : goal.returns-then-word-length
returns-then-word-length c = λ _. let x = c.args in unnamed x.text.now x.table.now x.at x.name.now (λ e. c.if-word-length.true (c.word.ensures.is ∙ e.long))

pub returns-then-length-eq0 : goal.returns-then-length-eq0
returns-then-length-eq0 c = λ _. let x = c.args in unnamed x.text.now x.table.now x.at x.name.now (λ e. omega (arith, e.some, c.if-length-eq0.true))

pub returns-then-text-last : goal.returns-then-text-last
returns-then-text-last c = λ _. let x = c.args in unnamed x.text.now x.table.now x.at x.name.now (λ e. omega (arith, e.inside, c.if-text-last.true, c.word-2.ensures.is))

pub returns : goal.returns
returns c = λ r. let x = c.args in unnamed x.text.now x.table.now x.at x.name.now (λ e. eqb-false _ _ r (ap (λ (p : ℕ). get_or x.text.now (p + (length x.name.now - 1)) 0) c.word-2.ensures.is ∙ e.last))
