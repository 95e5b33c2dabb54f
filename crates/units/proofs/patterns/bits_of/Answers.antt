use Rattle.std.proofs.Common.{sym, ◌∙◌, subst, not, T, Bool}
use Rattle.units.proofs.PatternLaws.{nan-told, number-told}
use Rattle.units.proofs.patterns.bits_of.Goals as goal

pub returns-then-is_nan : goal.returns-then-is_nan
returns-then-is_nan c = nan-told c.args.x (sym c.is_nan.ensures.value ∙ c.if-is_nan.true)

pub float_to_bits-result : goal.float_to_bits-result
float_to_bits-result c = subst (λ (b : Bool). T (not b)) (sym (sym c.is_nan.ensures.value ∙ c.if-is_nan.false)) tt

pub returns-else-is_nan : goal.returns-else-is_nan
returns-else-is_nan c = number-told c.args.x (sym c.is_nan.ensures.value ∙ c.if-is_nan.false)
