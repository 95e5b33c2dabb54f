use Prim.Native.Nat.{ℕ}
use Rattle.loader.specs.Load.{lent_as}
use Rattle.pieces.specs.Pieces.{held_as, piece_of}
use Rattle.abi.proofs.ArrivingLaws.{tells-took}
use Rattle.abi.proofs.desfanuk_take_piece.Goals as goal

pub returns : goal.returns
returns c = tells-took (λ (n : ℕ). piece_of (lent_as c.args.parameters.now c.args.registers.now c.args.variables.now) (held_as c.args.store.now n) c.args.piece.now) c.taken_of-so_far.ensures c.take_piece-took.result c.take_piece-took.ensures c.keep.ensures c.tell_reply.ensures
