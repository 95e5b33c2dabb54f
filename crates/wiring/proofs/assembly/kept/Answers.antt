-- `wiring::assembly::kept` meets its contract: the closure gives each bit as its rule says.
use borrow.Author.Rules.{rules}
use borrow.Author.Tests.{tests}
use Rattle.wiring.specs.Assembly.{Kept, bit_by}
use Rattle.wiring.proofs.assembly.kept.Goals as goal

pub returns : goal.returns
unfolding bit_by
returns c = let a = c.args in c.number_of.ensures.is (bit_by a.variables.now a.part (Kept a.step a.so_far)) (λ b on k. search (rules, tests))
