-- `replay::call::write_of` meets its contract. Assumes nothing.
use mir.Syntax.{w64}
use lib.IntN.{ℤ}
use mathlib.Core.Path.{refl, ap, ◌∙◌}
use mir.Facts.{to_z-of_z}
use borrow.Author.Rules.{rules}
use Rattle.std.specs.Prelude.{Some, option_and_then}
use Rattle.script.specs.Numbers.{value_of}
use Rattle.replay.specs.declared.call.Call.TheVariants.{Station}
use Rattle.replay.specs.declared.call.Request.TheVariants.{Write}
use Rattle.replay.specs.Calls.{writing}
use Rattle.replay.proofs.CallLaws.{write-so}
use Rattle.replay.proofs.call.write_of.Goals as goal

pub returns-in_err-variable : goal.returns-in_err-variable
unfolding writing
returns-in_err-variable c = c.from_residual.ensures ∙ write-so _ _ _ c.word.ensures refl _ _ c.in_err-variable.ensures refl

pub returns-in_err-only_word : goal.returns-in_err-only_word
unfolding writing
returns-in_err-only_word c =
    c.from_residual-in_err-only_word.ensures
    ∙ write-so _ _ _ c.word.ensures c.rest.ensures _ _ c.in_ok-variable.ensures (ap (option_and_then value_of) c.in_err-only_word.ensures)

pub returns-in_err-value : goal.returns-in_err-value
unfolding writing
returns-in_err-value c =
    c.from_residual-in_err-value.ensures
    ∙ write-so _ _ _ c.word.ensures c.rest.ensures _ _ c.in_ok-variable.ensures (c.in_err-value.ensures ∙ ap (option_and_then value_of) c.in_ok-only_word.ensures)

pub returns : goal.returns
unfolding writing
returns c =
    ap (λ (z : ℤ). Some (Station (Write c.in_ok-variable.variable z))) (to_z-of_z {w = w64} (search rules))
    ∙ write-so _ _ _ c.word.ensures c.rest.ensures _ _ c.in_ok-variable.ensures (c.in_ok-value.ensures ∙ ap (option_and_then value_of) c.in_ok-only_word.ensures)
