-- `loader::known::mark_heading` meets its contract.
use mathlib.Core.Path.{◌∙◌}
use Rattle.loader.proofs.KnownLaws.{heading-first, heading-more, heading-known, entry-number, marked-there}
use Rattle.loader.proofs.known.mark_heading.Goals as goal

pub loop-i-init : goal.loop-i-init
loop-i-init c = heading-first _ _ _ (c.mark.auto.map ∙ c.requires)

pub loop-i-preserved : goal.loop-i-preserved
loop-i-preserved c = heading-more _ _ _ _ _ c.loop-i.invariant (marked-there c.loop-i.known c.mark-in-loop-i.ensures (entry-number _ _ _ c.word-start.ensures.is c.word-length.ensures.is c.mark_at-in-loop-i.ensures))

pub returns : goal.returns
returns c = heading-known _ _ _ c.args.known.now c.requires (marked-there c.args.known.now c.mark.ensures c.mark_at.ensures) c.loop-i.invariant c.held-i-end.ensures.is c.loop-i-test.false
