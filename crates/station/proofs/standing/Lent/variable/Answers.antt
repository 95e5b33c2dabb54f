-- `station::standing::Lent::variable` meets its contract: sound tables have what is said of a variable.
use Rattle.tables.specs.declared.Part.TheVariants.{Read, Write}
use Rattle.station.proofs.standing.Lent.variable.Goals as goal

pub invariant_of-result : goal.invariant_of-result
invariant_of-result c = record {
  reads = c.requires.sound.ready _ Read c.requires.inside;
  writes = c.requires.sound.ready _ Write c.requires.inside;
}
