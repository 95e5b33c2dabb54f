-- A table with one entry more: only the count and the entry's own words are new.
-- Assumes nothing.
use Prim.Native.Nat.{ℕ, ◌+◌, ◌*◌, ◌≤◌, ◌<◌}
use native.Mathlib.Omega.{arith}
use mathlib.Core.Path.{◌≡◌, sym, ◌∙◌, subst}
use mathlib.Core.List.{List}
use lib.ListN.{length, get_or, length-set}
use lib.Seq.{get_or-set_same, get_or-set_other}
use Rattle.tables.specs.Tables.{count_of}
use Rattle.tables.proofs.Growth.{Added}
use Rattle.rules.specs.Words.{word_of, written, appended}
use Rattle.rules.proofs.WordLaws.{word-itself}
use Rattle.rules.proofs.FrameLaws.{written_below}
use Rattle.rules.proofs.WrittenLaws.{length-written, written_at, written-above}

module _ (stride : ℕ) (t words : List ℕ) where
  abbrev at : ℕ
  at = stride * count_of t + 1

  abbrev stored : List ℕ
  stored = written t at words

  abbrev count : ℕ
  count = word_of (count_of t + 1)

  pub length-appended : length (appended stride t words) ≡ length t
  unfolding appended
  length-appended = length-set stored 0 count ∙ length-written t at words

  appended-count : 0 < length t → count_of t < 4294967295 → count_of (appended stride t words) ≡ count_of t + 1
  unfolding appended
  appended-count l h =
      get_or-set_same stored 0 count 0 (subst (λ (n : ℕ). 0 < n) (sym (length-written t at words)) l)
      ∙ word-itself (count_of t + 1) (omega arith)

  -- the words of the new entry
  pub appended-word : at + length words ≤ length t → (k : ℕ) → k < length words → get_or (appended stride t words) (at + k) 0 ≡ get_or words k 0
  unfolding appended
  appended-word fits k l = get_or-set_other stored 0 (at + k) count 0 (λ e. omega arith) ∙ written_at t at words k fits l

  pub appended-added : 0 < length t → count_of t < 4294967295 → length words ≤ stride → Added stride t (appended stride t words)
  unfolding appended
  appended-added l h few =
      record {
        count = appended-count l h;
        before = λ k a z. sym (get_or-set_other stored 0 k count 0 (λ e. omega arith) ∙ written_below t at words k z);
        after = λ k z. get_or-set_other stored 0 k count 0 (λ e. omega arith) ∙ written-above t at words k (omega arith);
      }
