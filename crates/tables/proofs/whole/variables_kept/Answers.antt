-- `tables::whole::variables_kept` meets its contract: the loop invariant says that the maps are those of the variables
-- passed, and that these keep their rules.
use Rattle.tables.proofs.SoundLaws.{kept-ends, kept-stops, mapped-more, mapped-none, own-none}
use Rattle.tables.proofs.Laws.{every-none, gathers, reads-eq}
use mathlib.Core.Path.{sym, ◌∙◌}
use native.Mathlib.Omega.{arith}
use borrow.Author.Rules.{rules}
use Rattle.tables.proofs.whole.variables_kept.Goals as goal

pub loop-v-init : goal.loop-v-init
loop-v-init c = (mapped-none _, every-none _)

pub variable_fault-requires : goal.variable_fault-requires
variable_fault-requires c = record {
  v_bound = search rules;
  registers_bound = search rules;
  mapped = c.loop-v.invariant.0;
}

pub returns-then-variable_fault-ne0 : goal.returns-then-variable_fault-ne0
returns-then-variable_fault-ne0 c = kept-stops c.args.registers.now c.args.variables.now c.loop-v-test.true c.word-v-end.ensures.is c.variable_fault.ensures c.if-variable_fault-ne0.true

pub loop-v-preserved : goal.loop-v-preserved
loop-v-preserved c =
    let l = c.loop-v in
    let rs = c.args.registers.now in
    let vs = c.args.variables.now in (
      mapped-more rs vs l.v c.requires.registers_bound (own-none rs vs l.v (sym c.variable_fault.ensures ∙ c.if-variable_fault-ne0.false)) l.invariant.0 c.enter_variable.ensures.read c.enter_variable.ensures.write,
      sym (gathers _ _ (sym l.invariant.1) (sym (reads-eq c.variable_fault.ensures c.if-variable_fault-ne0.false))),
    )

pub returns : goal.returns
returns c =
    kept-ends c.args.registers.now c.args.variables.now c.requires.registers_bound (omega arith) c.loop-v-test.false c.word-v-end.ensures.is c.loop-v.invariant.0 c.loop-v.invariant.1 c.uncovered.ensures c.word.ensures.is
