-- `abi::desfanuk_sound` meets its contract: `sound`'s answer as a number.
use mathlib.Core.Path.{ap, ◌∙◌}
use mathlib.Core.Bool.{Bool, cond}
use Prim.Native.Nat.{ℕ}
use Rattle.tables.specs.View.{sound}
use Rattle.abi.proofs.desfanuk_sound.Goals as goal

pub returns : goal.returns
unfolding sound
returns c = c.pick.ensures ∙ ap (λ (b : Bool). cond {A = ℕ} b 1 0) c.sound.ensures
