-- `loader::known::mark_of` meets its contract.
use native.Mathlib.Omega.{arith}
use native.Mathlib.Nat.{mod-lt}
use mathlib.Core.Path.{refl, sym, ◌∙◌}
use Rattle.loader.specs.Known.{mark_of}
use Rattle.loader.proofs.KnownLaws.{mark_on, mark-end}
use Rattle.loader.proofs.known.mark_of.Goals as goal

pub loop-byte-init : goal.loop-byte-init
unfolding mark_of
loop-byte-init c = record { inside = omega arith; to-come = refl }

pub loop-byte-preserved : goal.loop-byte-preserved
loop-byte-preserved c = record {
  inside = mod-lt _ (omega arith);
  to-come = c.loop-byte.invariant.to-come ∙ mark_on _ _ _ c.loop-byte-test.true;
}

pub returns : goal.returns
returns c = sym (c.loop-byte.invariant.to-come ∙ mark-end _ _ _ c.loop-byte-test.false)
