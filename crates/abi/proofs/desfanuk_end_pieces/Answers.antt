use Prim.Native.Nat.{ℕ}
use Rattle.loader.specs.Load.{lent_as}
use Rattle.pieces.specs.Pieces.{held_as, end_of}
use Rattle.abi.proofs.ArrivingLaws.{tells-closed}
use Rattle.abi.proofs.desfanuk_end_pieces.Goals as goal

pub returns : goal.returns
returns c = tells-closed (λ (n : ℕ). end_of (lent_as c.args.parameters.now c.args.registers.now c.args.variables.now) (held_as c.args.store.now n)) c.taken_of-so_far.ensures c.end_pieces-ended.result c.end_pieces-ended.ensures c.keep.ensures c.tell_verdict.ensures
