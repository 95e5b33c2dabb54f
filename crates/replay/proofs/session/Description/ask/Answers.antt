-- `replay::session::Description::ask` meets its contract. Assumes nothing.
use Rattle.replay.proofs.SessionLaws.{asked-as, asks}
use lib.Seq.{length-take-le}
use mathlib.Core.Path.{sym}
use Rattle.replay.proofs.session.Description.ask.Goals as goal

pub slice_bounds-told-end-3 : goal.slice_bounds-told-end-3
slice_bounds-told-end-3 c = sym (length-take-le _ _ c.lent-held.ensures.upper_bound)

pub slice_bounds-told-end-5 : goal.slice_bounds-told-end-5
slice_bounds-told-end-5 c = sym (length-take-le _ _ c.lent-marked.ensures.upper_bound)

pub returns : goal.returns
returns c = asks _ _ _ _ _ _ _ _ _ (asked-as _ _ _ _ _ _ _ _ _ _ _ c.is_opening.ensures c.word.ensures.is c.word-2.ensures.is c.lent-held.ensures.value c.lent-marked.ensures.value) _ _ _ _ (rw (c.power_on-power.ensures, c.rest.ensures) at c.told-outcome.ensures) c.answered.ensures
