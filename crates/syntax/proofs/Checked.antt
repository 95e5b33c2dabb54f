-- The factored grammar of the language passes the check, by computation.
-- Assumes nothing.
use mathlib.Core.Path.{◌≡◌, refl}
use mathlib.Core.Bool.{So, false}
use Rattle.grammar.specs.Sets.{mem, disjoint, subset}
use Rattle.grammar.specs.Grammar.{lookup}
use Rattle.grammar.specs.Check.{nullable, first_with, left_rule, first_of_rule, first, more, plain, has, ok, ok_rule, all-ok, ok_rules}
use Rattle.syntax.proofs.Factored.{rules, device, device-ll}

pub rules-pass : So (ok_rules rules)
unfolding rules mem disjoint subset lookup nullable first_with left_rule first_of_rule first more plain has ok ok_rule all-ok ok_rules
rules-pass = refl

pub device-passes : So (ok rules device-ll)
unfolding rules mem disjoint subset lookup nullable first_with left_rule first_of_rule first more plain has ok ok_rule all-ok ok_rules
device-passes = refl

-- The published form does not: after the comma it needs more than one token of lookahead.
pub published-fails : ok rules device ≡ false
unfolding rules mem disjoint subset lookup nullable first_with left_rule first_of_rule first more plain has ok ok_rule all-ok ok_rules
published-fails = refl
