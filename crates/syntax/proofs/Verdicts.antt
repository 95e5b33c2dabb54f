-- The parser of the factored grammar and the published grammar: it accepts its texts, and stops where they stop.
-- Assumes nothing.
use Prim.Native.Nat.{ℕ}
use mathlib.Core.Path.{◌≡◌, sym, subst}
use mathlib.Core.Logic.{◌↔◌}
use mathlib.Core.List.{List, []}
use Rattle.grammar.specs.Grammar.{Grammar, Rules, Text, StopsAt}
use Rattle.grammar.specs.Parser.{accepted, stopped, verdict}
use Rattle.grammar.proofs.Exact.{accepted-exactly, stopped-exactly}
use Rattle.grammar.proofs.Verdicts.{stops-alike}
use Rattle.syntax.specs.Published.{published, device-spec}
use Rattle.syntax.proofs.Factored.{rules, ambiguous, device, device-ll}
use Rattle.syntax.proofs.Checked.{rules-pass, device-passes}
use Rattle.syntax.proofs.Numbered.{device-numbered, rules-numbered}
use Rattle.syntax.proofs.SameTexts.{same-device}
use Rattle.syntax.proofs.Expressions.{same-texts}

-- by numbers or by words
to-words : (ts : List ℕ) → Text ambiguous device ts → Text published device-spec ts
to-words ts p = subst (λ (rs : Rules). Text rs device-spec ts) (sym rules-numbered) (subst (λ (g : Grammar). Text ambiguous g ts) (sym device-numbered) p)

from-words : (ts : List ℕ) → Text published device-spec ts → Text ambiguous device ts
from-words ts p = subst (λ (g : Grammar). Text ambiguous g ts) device-numbered (subst (λ (rs : Rules). Text rs device-spec ts) rules-numbered p)

-- The factored grammar has the texts of the published one, over the published rules.
to-text : (ts : List ℕ) → Text rules device-ll ts → Text published device-spec ts
to-text ts p = to-words ts ((same-texts ts).0 (same-device.1 ts [] p))

from-text : (ts : List ℕ) → Text published device-spec ts → Text rules device-ll ts
from-text ts p = same-device.0 ts [] ((same-texts ts).1 (from-words ts p))

pub accepted-published : (ts : List ℕ) → (verdict rules device-ll ts ≡ accepted) ↔ Text published device-spec ts
accepted-published ts =
    let e = accepted-exactly rules rules-pass device-ll device-passes ts in
    (λ v. to-text ts (e.0 v), λ p. e.1 (from-text ts p))

pub stopped-published : (ts : List ℕ) (k : ℕ) → (verdict rules device-ll ts ≡ stopped k) ↔ StopsAt (Text published device-spec) ts k
stopped-published ts k =
    let e = stopped-exactly rules rules-pass device-ll device-passes ts k in (
      λ v. stops-alike (Text rules device-ll) (Text published device-spec) to-text from-text ts k (e.0 v),
      λ h. e.1 (stops-alike (Text published device-spec) (Text rules device-ll) from-text to-text ts k h),
    )
