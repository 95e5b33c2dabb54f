-- `wiring::assembly::written` meets its contract: the closure gives each bit as its rule says.
use borrow.Author.Rules.{rules}
use borrow.Author.Tests.{tests}
use Rattle.wiring.specs.Assembly.{Written, bit_by}
use Rattle.wiring.proofs.assembly.written.Goals as goal

pub returns : goal.returns
unfolding bit_by
returns c = let a = c.args in c.number_of.ensures.is (bit_by a.variables.now a.part (Written a.cell a.value)) (λ b on k. search (rules, tests))
