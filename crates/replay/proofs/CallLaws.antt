-- What a line asks for, by its words as the code takes them. Assumes nothing.
use mathlib.Core.Bool.{Bool, true, false, cond, ◌&&◌, false≢true}
use mathlib.Core.List.{List, [], ◌∷◌}
use mathlib.Core.Path.{◌≡◌, refl, sym, ap, ◌∙◌}
use Prim.Native.Nat.{ℕ, ◌-◌, ◌^◌}
use Rattle.token.specs.Bytes.{bytes, same}
use Rattle.script.specs.Words.{word_of, rest_of, ahead, words_of}
use Rattle.script.specs.Numbers.{number_of, value_of}
use Rattle.script.specs.Patterns.{pattern_of}
use Rattle.std.specs.Prelude.{Option, Some, None, unwrap_or, ℤ}
use Rattle.replay.specs.declared.call.Call.{Call}
use Rattle.replay.specs.declared.call.Call.TheVariants.{Nothing, Lookup, Unknown}
use Rattle.replay.specs.Fields.{is_none, carried_of}
use Rattle.replay.specs.Calls.{chosen, only, bare_of, lookup_of, writing, write_of, calibrating, calibrated_of, is_all_lem, amount_of, lent, lend_of, held, held_of, holding, hold_of, call_by, is_skipped, call_of}
use Rattle.replay.proofs.FieldLaws.{no_number, split}

-- the first test that holds decides
module _ {r : Option Call} (test : Bool) (call : Option Call) (more : List (Bool × Option Call)) where
  pub chosen-here : test ≡ true → r ≡ call → r ≡ chosen ((test, call) ∷ more)
  unfolding chosen
  chosen-here holds is = rw holds is

  pub chosen_on : test ≡ false → r ≡ chosen more → r ≡ chosen ((test, call) ∷ more)
  unfolding chosen
  chosen_on fails is = rw fails is

pub chosen_none : None ≡ chosen []
unfolding chosen
chosen_none = refl

-- ── words that are missing ──

write-first : (word : List ℕ) (z : Option ℤ) (more : List (List ℕ)) → z ≡ only value_of more → writing (number_of word) z ≡ write_of (ahead word more)
unfolding ahead writing write_of
write-first [] z more e = rw no_number
write-first (x ∷ word) z more e = rw e

all_first : (word : List ℕ) (more : List (List ℕ)) → (same word (bytes "all") && is_none more) ≡ is_all_lem (ahead word more)
unfolding ahead is_all_lem same
all_first [] more = refl
all_first (x ∷ word) more = refl

lend-first : (word : List ℕ) (k : Option ℕ) (more : List (List ℕ)) → k ≡ amount_of more → lent word k ≡ lend_of (ahead word more)
unfolding ahead lent lend_of chosen same
lend-first [] (Some k) more e = refl
lend-first [] None more e = refl
lend-first (x ∷ word) k more e = rw e

hold-first : (word : List ℕ) (more : List (List ℕ)) → holding word more ≡ hold_of (ahead word more)
unfolding ahead holding hold_of chosen same
hold-first [] more = refl
hold-first (x ∷ word) more = refl

held-no-step : (reading : Bool) (v pattern : Option ℕ) → held reading v None pattern ≡ None
unfolding held
held-no-step reading (Some v) pattern = refl
held-no-step reading None pattern = refl

held_first :
    (reading : Bool) (word next : List ℕ) (pattern : Option ℕ) (more : List (List ℕ)) → pattern ≡ only carried_of more
    → held reading (number_of word) (number_of next) pattern ≡ held_of reading (ahead word (ahead next more))
unfolding ahead held held_of
held_first reading [] next pattern more e = rw no_number
held_first reading (x ∷ word) [] pattern more e = ap (λ (step : Option ℕ). held reading (number_of (x ∷ word)) step pattern) no_number ∙ held-no-step reading (number_of (x ∷ word)) pattern
held_first reading (x ∷ word) (y ∷ next) pattern more e = rw e

no_gain : (v offset : Option ℕ) → calibrating v None offset ≡ None
unfolding calibrating
no_gain (Some v) offset = refl
no_gain None offset = refl

calibrated-first : (word next : List ℕ) (offset : Option ℕ) (more : List (List ℕ)) → offset ≡ only pattern_of more
    → calibrating (number_of word) (pattern_of next) offset ≡ calibrated_of (ahead word (ahead next more))
unfolding ahead calibrating calibrated_of pattern_of
calibrated-first [] next offset more e = rw no_number
calibrated-first (x ∷ word) [] offset more e = no_gain (number_of (x ∷ word)) offset
calibrated-first (x ∷ word) (y ∷ next) offset more e = rw e

called-first :
    (verb : List ℕ) (words : List (List ℕ)) → call_of (ahead verb words) ≡ cond (is_skipped verb) Nothing (unwrap_or (call_by verb words) Unknown)
unfolding ahead call_of is_skipped
called-first [] words = refl
called-first (x ∷ verb) words = refl

-- ── a line, its first word and what follows it ──

module _ (line first tail : List ℕ) (is-first : first ≡ word_of line) (is-rest : tail ≡ rest_of line) where
  whole : words_of line ≡ ahead first (words_of tail)
  whole = split line first is-first tail is-rest

  pub write-so : (v : Option ℕ) (z : Option ℤ) → v ≡ number_of first → z ≡ only value_of (words_of tail) → writing v z ≡ write_of (words_of line)
  write-so v z is-v is-z = ap (λ (n : Option ℕ). writing n z) is-v ∙ write-first first z (words_of tail) is-z ∙ ap write_of (sym whole)

  module _ (is_all alone : Bool) (a : is_all ≡ same first (bytes "all")) (b : alone ≡ is_none (words_of tail)) where
    all_so : (is_all && alone) ≡ is_all_lem (words_of line)
    all_so = rw (a, b) (all_first first (words_of tail) ∙ ap is_all_lem (sym whole))

    pub amount-all : (is_all && alone) ≡ true → Some (2 ^ 64 - 1) ≡ amount_of (words_of line)
    unfolding amount_of
    amount-all h = rw (sym all_so ∙ h)

    pub amount-some : (n : Option ℕ) → n ≡ only number_of (words_of line) → (is_all && alone) ≡ false → n ≡ amount_of (words_of line)
    unfolding amount_of
    amount-some n e h = rw (sym all_so ∙ h) e

  pub lend-so : (k : Option ℕ) → k ≡ amount_of (words_of tail) → lent first k ≡ lend_of (words_of line)
  lend-so k is-k = lend-first first k (words_of tail) is-k ∙ ap lend_of (sym whole)

  pub hold-so : holding first (words_of tail) ≡ hold_of (words_of line)
  hold-so = hold-first first (words_of tail) ∙ ap hold_of (sym whole)

  pub held-so :
      (reading : Bool) (next more : List ℕ) → next ≡ word_of tail → more ≡ rest_of tail
      → (v step pattern : Option ℕ) → v ≡ number_of first → step ≡ number_of next → pattern ≡ only carried_of (words_of more)
      → held reading v step pattern ≡ held_of reading (words_of line)
  held-so reading next more is-next is-more v step pattern is-v is-step is-pattern =
      ap (λ (n : Option ℕ). held reading n step pattern) is-v
      ∙ ap (λ (n : Option ℕ). held reading (number_of first) n pattern) is-step
      ∙ held_first reading first next pattern (words_of more) is-pattern
      ∙ ap (λ (words : List (List ℕ)). held_of reading (ahead first words)) (sym (split tail next is-next more is-more))
      ∙ ap (held_of reading) (sym whole)

  pub calibrated-so : (next more : List ℕ) → next ≡ word_of tail → more ≡ rest_of tail
      → (v gain offset : Option ℕ) → v ≡ number_of first → gain ≡ pattern_of next → offset ≡ only pattern_of (words_of more)
      → calibrating v gain offset ≡ calibrated_of (words_of line)
  calibrated-so next more is-next is-more v gain offset is-v is-gain is-offset =
      rw (is-v, is-gain)
      (calibrated-first first next offset (words_of more) is-offset
      ∙ ap (λ (words : List (List ℕ)). calibrated_of (ahead first words)) (sym (split tail next is-next more is-more))
      ∙ ap calibrated_of (sym whole))

  -- the line as a whole
  pub called-so : (call : Call) → is_skipped first ≡ false → call ≡ unwrap_or (call_by first (words_of tail)) Unknown → call ≡ call_of (words_of line)
  called-so call heard is = is ∙ sym (ap call_of whole ∙ called-first first (words_of tail) ∙ rw heard)

pub skipped-so : (line first : List ℕ) → first ≡ word_of line → is_skipped first ≡ true → Nothing ≡ call_of (words_of line)
skipped-so line first is-first skipped =
    sym (ap call_of (split line first is-first (rest_of line) refl) ∙ called-first first (words_of (rest_of line)) ∙ rw skipped)

-- ── a name, or none ──

pub looks-bare : (words : List (List ℕ)) → is_none words ≡ true → Some Lookup ≡ lookup_of words
unfolding is_none lookup_of
looks-bare [] h = refl
looks-bare (name ∷ words) h = absurd (false≢true h)

pub looks_on : (line tail : List ℕ) → tail ≡ rest_of line → is_none (words_of line) ≡ false → bare_of (words_of tail) Lookup ≡ lookup_of (words_of line)
unfolding ahead is_none lookup_of
looks_on line tail is-rest some = go (word_of line) (sym (ap is_none whole-line) ∙ some) ∙ ap lookup_of (sym whole-line)
  where
    whole-line : words_of line ≡ ahead (word_of line) (words_of tail)
    whole-line = split line (word_of line) refl tail is-rest

    go : (word : List ℕ) → is_none (ahead word (words_of tail)) ≡ false → bare_of (words_of tail) Lookup ≡ lookup_of (ahead word (words_of tail))
    go [] h = absurd (false≢true (sym h))
    go (x ∷ word) h = refl
