-- `rules::register::add_register` meets its contract.
use native.Mathlib.Omega.{arith}
use mathlib.Core.Path.{◌≡◌, ap, refl, ◌∙◌}
use lib.ListN.{length}
use Rattle.rules.specs.Register.{part_words, register_entry}
use Rattle.rules.proofs.OffsetLaws.{part_length}
use mathlib.Core.List.{[], ◌∷◌}
use Rattle.rules.proofs.WordLaws.{appended-three}
use Rattle.rules.proofs.register.add_register.Goals as goal

pub returns : goal.returns
unfolding register_entry part_words
returns c =
    let l : length c.part_words-read.result ≡ 6 = ap length c.part_words-read.ensures ∙ part_length _ _ _ _ in
    appended-three 15 _ (c.narrow.result ∷ c.narrow-2.result ∷ c.args.register.width ∷ []) c.part_words-read.result c.part_words-write.result refl (omega arith) c.word-count.ensures.is c.store.ensures c.store-2.ensures c.store-3.ensures c.count_one.ensures ∙ rw (c.narrow.ensures, c.narrow-2.ensures, c.part_words-read.ensures, c.part_words-write.ensures)
