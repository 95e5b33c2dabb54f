-- `bits::values::encode_natural` meets its contract.
use Rattle.bits.specs.Values.{encoded, in_range, encode}
use Rattle.bits.proofs.values.encode_natural.Goals as goal

pub returns : goal.returns
unfolding encoded in_range encode
returns c = rw (← c.limit.ensures) c.then_some.ensures
