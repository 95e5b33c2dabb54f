-- `station::variable::Variable::byte_to_write` meets its contract: what is assembled over a register's width fits an
-- access.
use Prim.Native.Nat.{◌<◌, ◌≤◌, ◌^◌}
use native.Mathlib.Nat.{lt_of_lt_of_le}
use native.Mathlib.Omega.{arith}
use lib.Pow.{pow_mono}
use Rattle.bits.specs.Widths.{widest}
use Rattle.bits.proofs.BitLaws.{number_lt}
use Rattle.station.proofs.variable.Variable.byte_to_write.Goals as goal

pub overflow_cast-result : goal.overflow_cast-result
overflow_cast-result c =
    let below : c.written.result < 2 ^ c.word.result = rw c.written.ensures (number_lt _ _) in
    let wide : c.word.result ≤ widest = omega (arith, c.word.ensures.is, c.requires.wide) in
    record { fits = lt_of_lt_of_le below (pow_mono wide) }
