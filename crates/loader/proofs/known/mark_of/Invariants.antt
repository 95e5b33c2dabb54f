-- `loader::known::mark_of` meets its contract.
use Prim.Native.Nat.{◌<◌}
use mathlib.Core.Path.{◌≡◌}
use lib.ListN.{drop}
use Rattle.loader.specs.Known.{mark_from, mark_of}
use Rattle.loader.proofs.known.mark_of.Given as goal

abbrev pub invariant-loop-byte : goal.invariant-loop-byte
invariant-loop-byte l = record {
  inside : l.number < 2048;
  to-come : mark_of l.name ≡ mark_from l.number (drop l.byte-index l.name);
}
