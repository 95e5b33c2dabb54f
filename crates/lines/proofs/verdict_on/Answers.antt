-- `lines::verdict_on` meets its contract.
use lib.ListN.{length-replicate}
use Prim.Native.Nat.{ℕ}
use Rattle.lines.proofs.LineLaws.{verdict-alone}
use Rattle.lines.proofs.verdict_on.Goals as goal

pub returns : goal.returns
returns c = verdict-alone _ _ _ _ _ _ _ (record { parameters = length-replicate {A = ℕ} 577 0; registers = length-replicate {A = ℕ} 961 0; variables = length-replicate {A = ℕ} 7553 0 }) c.load.ensures
