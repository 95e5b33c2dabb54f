-- `details::broken::first_shared` meets its contract.
use mathlib.Core.Path.{sym, ap}
use Rattle.std.specs.Prelude.{is_some}
use Rattle.details.specs.Broken.{first_shared}
use Rattle.details.proofs.SearchLaws.{search-found, search_on}
use Rattle.details.proofs.broken.first_shared.Goals as goal

pub returns-in-Some : goal.returns-in-Some
unfolding first_shared
returns-in-Some g c other tells =
    let told = tells _ _ c.in-Some.ensures in
    let found = search-found (λ n. is_some (other n)) _ _ (c.loop-number.invariant other tells) c.loop-number-test.true (ap is_some (sym told)) in
    rw (found, sym told)

pub loop-number-preserved : goal.loop-number-preserved
loop-number-preserved g c other tells =
    search_on _ _ _ (c.loop-number.invariant other tells) c.loop-number-test.true (ap is_some (sym (tells _ _ c.in_default.ensures)))
