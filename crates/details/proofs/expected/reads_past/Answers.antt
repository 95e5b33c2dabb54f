-- `details::expected::reads_past` meets its contract.
use Prim.Native.Nat.{ℕ}
use mathlib.Core.Path.{ap, ◌∙◌}
use mathlib.Core.List.{List}
use Rattle.syntax.specs.declared.text.Outline.{Outline}
use Rattle.syntax.specs.Text.{outlined, reading}
use Rattle.details.specs.Expected.{goes_past}
use Rattle.details.proofs.expected.reads_past.Goals as goal

pub returns : goal.returns
unfolding outlined
returns c = c.goes_past.ensures ∙ ap (λ (o : Outline). goes_past o.step c.args.place) c.read_text.ensures ∙ ap (λ (t : List ℕ). goes_past (reading t).step c.args.place) c.name_of.ensures
