use Rattle.std.proofs.Common.{◌≡◌, ℕ, Bool}
use Rattle.token.specs.Bytes.{run_at}
use Rattle.token.proofs.run.run_end.Given as goal

abbrev pub invariant-loop-i : goal.invariant-loop-i
invariant-loop-i g l =
    (test : ℕ → Bool) → ((x : ℕ) (told : Bool) → goal.F-post g l.passes x told → told ≡ test x)
    → run_at test l.text l.at ≡ run_at test l.text l.i
