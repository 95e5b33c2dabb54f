-- `token::name::slot` meets its contract. Assumes nothing.
use Rattle.token.proofs.Slots.{slot_is}
use mathlib.Core.Path.{refl}
use Rattle.token.proofs.name.slot.Goals as goal

pub returns : goal.returns
returns c = slot_is c.args.text.now c.args.place c.args.end _ _ _ c.requires.0 c.requires.1 refl c.wide-first.ensures.0 c.wide-middle.ensures.0
