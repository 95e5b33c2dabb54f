-- `rules::register::register_written` meets its contract.
use borrow.Author.Rules.{rules}
use mathlib.Core.Path.{◌∙◌}
use Rattle.syntax.specs.declared.register.Port.{Port}
use Rattle.rules.specs.Register.{unknown_port, bad_offset, register_written}
use Rattle.rules.specs.State.{state_of}
use Rattle.rules.proofs.FaultLaws.{only-then, or-six}
use Rattle.rules.proofs.register.register_written.Goals as goal

pub returns : goal.returns
unfolding register_written state_of
returns c =
    let r = c.args.register in
    let text = c.args.known.text.now in
    let ps = c.args.known.parameters.now in
    let seven = only-then r.two r.second (λ (p : Port). unknown_port text ps p) c.then_some-second.ensures c.and_then-also_seven.ensures (λ y k. search rules) in
    let eight = only-then r.two r.second (λ (p : Port). bad_offset text ps r.place p) c.then_some-second.ensures c.and_then-also_eight.ensures (λ y k. search rules) in
    or-six c.declared_before-six.result c.unknown_port-seven.result c.and_then-also_seven.result c.bad_offset-eight.result c.and_then-also_eight.result c.fault_if-nine.result
    c.or.ensures c.or-2.ensures c.or-3.ensures c.or-4.ensures c.or-5.ensures
    ∙ rw (c.fault_if-nine.ensures, c.masks_kept.ensures, c.are_paired-paired.ensures, eight, c.bad_offset-eight.ensures, seven, c.unknown_port-seven.ensures, c.declared_before-six.ensures)
