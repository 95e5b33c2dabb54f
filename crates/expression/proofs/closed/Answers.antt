use Rattle.std.proofs.Common.{refl}
use Rattle.expression.specs.Expression.{closed_read}
use Rattle.expression.proofs.Tokens.{is_sign}
use Rattle.expression.proofs.closed.Goals as goal

pub returns-then-eq : goal.returns-then-eq
unfolding closed_read
returns-then-eq c = rw (closed_read, ← c.scan_at-found.ensures, ← is_sign c.scan_at-found.result.token 41 refl, ← c.sign.ensures, ← c.if-eq.ensures)

pub returns : goal.returns
unfolding closed_read
returns c = rw (closed_read, ← c.scan_at-found.ensures, ← is_sign c.scan_at-found.result.token 41 refl, ← c.sign.ensures, ← c.if-eq.ensures, c.refusal.ensures)
