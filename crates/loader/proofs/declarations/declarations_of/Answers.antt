-- `loader::declarations::declarations_of` meets its contract.
use mathlib.Core.Path.{refl}
use mathlib.Core.List.{[]}
use Rattle.loader.specs.Judge.{progress_of}
use Rattle.loader.proofs.LoadSteps.{declarations-are}
use Rattle.loader.proofs.NextSteps.{ready-still}
use Rattle.loader.proofs.KnownLaws.{known-moved}
use Rattle.loader.proofs.declarations.declarations_of.Goals as goal

pub declaration_next-one-requires : goal.declaration_next-one-requires
unfolding progress_of
declaration_next-one-requires c = record {
  noted_2 = record { ready = ready-still [] c.args.loading _ _ _ _ c.past-inside.ensures c.requires.ready; names = known-moved _ _ _ _ _ c.args.loading _ c.past-inside.ensures c.requires.names };
  seen_value = c.look-seen.ensures;
}

pub more_declarations-all-requires : goal.more_declarations-all-requires
more_declarations-all-requires c = c.declaration_next-one.ensures.noted

pub returns : goal.returns
unfolding progress_of
returns c = record {
  read = declarations-are _ c.args.loading _ c.more_declarations-all.result _ _ _ _ _ _ _ refl c.past-inside.ensures c.declaration_next-one.ensures.read c.more_declarations-all.ensures.read refl c.past.ensures;
  noted = record { ready = ready-still [] c.more_declarations-all.result _ _ _ _ c.past.ensures c.more_declarations-all.ensures.noted.ready; names = known-moved _ _ _ _ _ c.more_declarations-all.result _ c.past.ensures c.more_declarations-all.ensures.noted.names };
}
