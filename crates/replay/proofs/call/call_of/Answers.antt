-- `replay::call::call_of` meets its contract. Assumes nothing.
use mathlib.Core.Path.{sym, ap, ◌∙◌}
use Rattle.std.specs.Prelude.{unwrap_or}
use Rattle.replay.specs.declared.call.Call.TheVariants.{Unknown}
use Rattle.replay.proofs.CallLaws.{skipped-so, called-so}
use Rattle.replay.proofs.call.call_of.Goals as goal

pub returns-then-is_skipped : goal.returns-then-is_skipped
returns-then-is_skipped c = skipped-so _ _ c.word-verb.ensures (sym c.is_skipped.ensures ∙ c.if-is_skipped.true)

pub returns-else-is_skipped : goal.returns-else-is_skipped
returns-else-is_skipped c = called-so _ _ _ c.word-verb.ensures c.rest.ensures _ (sym c.is_skipped.ensures ∙ c.if-is_skipped.false) (c.unwrap_or.ensures ∙ ap (λ o. unwrap_or o Unknown) c.call_by.ensures)
