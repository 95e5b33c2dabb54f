-- `details::expected::could_stand` meets its contract.
use Prim.Native.Nat.{ℕ}
use lib.ListN.{length-replicate}
use Rattle.details.proofs.ExpectedLaws.{text-long, word-long, tried}
use Rattle.details.proofs.expected.could_stand.Goals as goal

pub returns-then-before-gt8192 : goal.returns-then-before-gt8192
returns-then-before-gt8192 c = text-long c.args.text.now c.args.place c.args.word.now _ c.name_of-before.ensures c.if-before-gt8192.true

pub returns-then-word-gt64 : goal.returns-then-word-gt64
returns-then-word-gt64 c = word-long c.args.text.now c.args.place c.args.word.now _ c.name_of-before.ensures c.if-before-gt8192.false c.if-word-gt64.true

pub returns : goal.returns
returns c = tried c.args.text.now c.args.place c.args.word.now _ c.name_of-before.ensures c.if-before-gt8192.false c.if-word-gt64.false (length-replicate {A = ℕ} 8300 0) c.put_bytes-blank.ensures c.put_bytes-start.ensures c.put_bytes-end.ensures c.reads_past.ensures
