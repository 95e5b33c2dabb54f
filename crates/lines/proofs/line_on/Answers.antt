-- `lines::line_on` meets its contract.
use Rattle.lines.proofs.LineLaws.{line-whole}
use borrow.Author.Rules.{rules}
use Rattle.lines.proofs.line_on.Goals as goal

pub returns : goal.returns
returns c = line-whole _ _ _ (search rules) c.verdict_on.ensures c.verdict_line.ensures
