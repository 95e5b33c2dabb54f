-- `tokens::show_tokens` ends: each token that is not the last brings the reader forward.
use native.Mathlib.Omega.{arith}
use mathlib.Core.Path.{sym, ap, ◌∙◌}
use Rattle.token.specs.Fair.{goes_on_lem}
use Rattle.token.proofs.Laws.{passes}
use Rattle.tokens.proofs.show_tokens.Goals as goal

pub loop-out-smaller : goal.loop-out-smaller
loop-out-smaller g c =
    let e = c.scan-found.ensures in
    let ahead = rw (← ap (λ r. r.next) e) at (passes c.args.text.now c.loop-out.at (ap (λ r. goes_on_lem r.token) (sym e) ∙ sym c.if-not-goes_on.ensures)) in
    omega (arith, ahead.0, ahead.1)
