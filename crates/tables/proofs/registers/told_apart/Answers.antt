use Rattle.tables.specs.Rules.{told_apart}
use Rattle.tables.specs.Tables.{register_part_in}
use Rattle.tables.proofs.ApartLaws.{told_apart-bit}
use mathlib.Core.Path.{subst}
use Prim.Native.Nat.{ℕ, ◌<◌, ◌^◌}
use Rattle.tables.proofs.registers.told_apart.Goals as goal

pub returns : goal.returns
unfolding told_apart
returns c =
    let x = c.args in
    let rs = x.registers.now in
    rw (c.word-4.ensures.is, c.word-3.ensures.is, c.word-2.ensures.is, c.word.ensures.is)
    (told_apart-bit (register_part_in rs x.one) (register_part_in rs x.other) 32 (subst (λ (n : ℕ). n < 2 ^ 32) c.word.ensures.is c.word.ensures.small))
