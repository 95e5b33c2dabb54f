-- `details::places::name_at` meets its contract.
use mathlib.Core.Path.{ap, ap₂, ◌∙◌}
use Rattle.rules.specs.Names.{name_of}
use Rattle.token.specs.declared.Scanned.{Scanned}
use Rattle.token.specs.Fair.{place_of}
use Rattle.details.specs.Places.{extent_of}
use Rattle.details.proofs.places.name_at.Goals as goal

pub returns : goal.returns
returns c = c.name_of.ensures ∙ ap₂ (name_of c.args.text.now) (c.place.ensures ∙ ap (λ (s : Scanned). place_of s.token) c.scan_at-token.ensures) (c.extent_of.ensures ∙ ap (λ (s : Scanned). extent_of s.token) c.scan_at-token.ensures)
