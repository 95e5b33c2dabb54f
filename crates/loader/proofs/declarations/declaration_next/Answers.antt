-- `loader::declarations::declaration_next` meets its contract.
use borrow.Author.Tests.{eq-eqb, ne_eqb}
use Rattle.syntax.specs.Text.{declaration_with}
use Rattle.syntax.proofs.TextSteps.{seen-past}
use Rattle.loader.specs.Judge.{progress_of}
use Rattle.loader.proofs.ReadyLaws.{ready-register}
use Rattle.loader.proofs.declarations.declaration_next.Goals as goal

pub register_next-requires : goal.register_next-requires
unfolding progress_of
register_next-requires c = record {
  known = c.requires.noted_2.names;
  word_value = seen-past _ _ _ c.requires.seen_value c.if-seen-eq-REGISTER.true;
}

pub returns-then-seen-eq-REGISTER : goal.returns-then-seen-eq-REGISTER
unfolding declaration_with progress_of
returns-then-seen-eq-REGISTER c = record {
  read = rw (declaration_with, ← c.requires.seen_value, eq-eqb _ _ c.if-seen-eq-REGISTER.true) c.register_next.ensures.read;
  noted = record { ready = rw c.register_next.ensures.read (ready-register _ _ c.requires.noted_2.ready); names = c.register_next.ensures.names };
}

pub variable_next-requires : goal.variable_next-requires
variable_next-requires c = record {
  noted_2 = c.requires.noted_2;
  word_value = c.seen_after-word.ensures c.requires.seen_value;
}

pub returns : goal.returns
unfolding declaration_with progress_of
returns c = record {
  read = rw (declaration_with, ← c.requires.seen_value, ne_eqb _ _ c.if-seen-eq-REGISTER.false) c.variable_next.ensures.read;
  noted = c.variable_next.ensures.noted;
}
