-- `tables::pieces::piece_run` meets its contract: what the calls promise gives the rest.
use Rattle.tables.proofs.MarkLaws as laws
use Rattle.tables.specs.Marks.{down_from}
use Prim.Native.Nat.{ℕ, ◌+◌, ◌*◌}
use mathlib.Core.Path.{ap, ◌∙◌}
use native.Mathlib.Omega.{arith}
use Rattle.tables.proofs.pieces.piece_run.Goals as goal

pub returns : goal.returns
returns c =
    let s = c.args in
    record {
      bits =
          ap (λ (n : ℕ). down_from (64 * c.word-register.result + c.word-low.result) n) c.saturating_sub.ensures
          ∙ laws.piece_run s.variables.now s.piece c.word-register.ensures.is c.word-high.ensures.is c.word-low.ensures.is;
      small = omega (arith, c.saturating_sub.ensures);
      short = omega (arith, c.saturating_sub.ensures);
    }
