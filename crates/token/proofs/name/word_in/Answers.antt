-- `token::name::word_in` meets its contract: each arm is the entry of its slot. Assumes nothing.
use Rattle.token.specs.Word.{reserved}
use Rattle.token.specs.Slot.{slot_of}
use native.Mathlib.Omega.{arith}
use Rattle.token.proofs.Below.{none_below}
use Rattle.token.proofs.Keys.{other-than}
use Rattle.token.proofs.Slots.{slot_keys, no_word-in}
use Rattle.token.proofs.name.word_in.Goals as goal

pub returns-in_default : goal.returns-in_default
unfolding slot_of reserved
returns-in_default c = none_below 29 _ (let none = no_word-in _ (other-than Unit slot_keys _ c.in_default.in_default-own.rest) in omega (arith, none))
