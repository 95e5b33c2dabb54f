-- `details::holders::touches_register` meets its contract.
use Prim.Native.Nat.{ℕ}
use mathlib.Core.Path.{ap, ◌∙◌}
use Rattle.tables.specs.Marks.{has}
use Rattle.tables.specs.Tables.{mentioned_to, variable_part_of}
use Rattle.tables.specs.View.{part_no}
use Rattle.details.proofs.holders.touches_register.Goals as goal

pub returns : goal.returns
returns c = c.mentioned_below.ensures ∙ ap (λ (n : ℕ). has c.args.register (mentioned_to (variable_part_of c.args.variables.now (part_no c.args.part) c.args.v) n)) c.piece_count.ensures
