-- `token::name::name_token` meets its contract. Assumes nothing.
use native.Mathlib.Omega.{arith}
use borrow.Author.Tests.{lt-ltb, le-ltb}
use Rattle.token.specs.Word.{is_name_byte}
use Rattle.token.specs.Scan.{name_token}
use Rattle.token.proofs.Below.{below-some, below-none}
use Rattle.token.proofs.Places.{name-is}
use Rattle.token.proofs.RunSteps.{run-after, run-within}
use Rattle.token.proofs.name.name_token.Goals as goal

pub word-requires : goal.word-requires
word-requires c =
    let x = c.args in
    let end = c.run_end-next.ensures is_name_byte (λ b told e. e) in
    (omega (arith, end, run-after is_name_byte x.text.now x.place), omega (arith, end, run-within is_name_byte x.text.now x.place c.requires))

pub overflow_sub-token : goal.overflow_sub-token
overflow_sub-token c =
    omega (arith, c.run_end-next.ensures is_name_byte (λ b told e. e), run-after is_name_byte c.args.text.now c.args.place)

pub returns-in-Some : goal.returns-in-Some
unfolding name_token
returns-in-Some c =
    let end = c.run_end-next.ensures is_name_byte (λ b told e. e) in
    let some = below-some 29 _ c.in-Some.ensures in
    rw (name-is _ _ c.requires, ← end) (rw (← some.1) (rw (lt-ltb c.in-Some.k 29 (omega (arith, some.0, some.1)), name_token)))

pub returns-in-None : goal.returns-in-None
unfolding name_token
returns-in-None c =
    let end = c.run_end-next.ensures is_name_byte (λ b told e. e) in
    rw (name-is _ _ c.requires, ← end) (rw (le-ltb _ 29 (below-none 29 _ c.in-None.ensures), name_token))
