-- `loader::declarations::more_declarations` meets its contract.
use mathlib.Core.Path.{sym, ◌∙◌}
use Rattle.syntax.specs.Text.{more_declarations}
use Rattle.syntax.proofs.LoopSteps.{loop-over, loop-done, loop-again}
use Rattle.loader.specs.Judge.{progress_of}
use Rattle.loader.proofs.declarations.more_declarations.Goals as goal

pub returns-after-loop : goal.returns-after-loop
unfolding more_declarations progress_of
returns-after-loop c = record {
  read = loop-over _ _ _ _ _ _ _ c.loop.invariant.read c.loop-test.false;
  noted = c.loop.invariant.noted;
}

pub returns-then-not-declares : goal.returns-then-not-declares
unfolding more_declarations progress_of
returns-then-not-declares c = record {
  read = loop-done _ _ _ _ _ _ _ c.loop.invariant.read c.look-seen.ensures (sym c.declares.ensures ∙ c.if-not-declares.true);
  noted = c.loop.invariant.noted;
}

pub loop-preserved : goal.loop-preserved
unfolding more_declarations progress_of
loop-preserved c = record {
  read = loop-again _ _ _ _ _ _ _ c.loop.invariant.read c.look-seen.ensures c.loop-test.true (sym c.declares.ensures ∙ c.if-not-declares.false) c.declaration_next-all.ensures.read;
  noted = c.declaration_next-all.ensures.noted;
}
