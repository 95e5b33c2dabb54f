-- A call for a text in pieces, told in words, keeps the promise of the C face, and no promise leaves room for a second
-- answer. Assumes nothing.
use Prim.Native.Nat.{ℕ}
use mathlib.Core.Path.{◌≡◌, ◌∙◌, refl, sym, ap, subst}
use mathlib.Core.Bool.{cond}
use mathlib.Core.List.{List, [], ◌∷◌}
use lib.Dec.{eqb}
use lib.ListN.{get_or}
use Rattle.std.proofs.Common.{Ok, Err}
use Rattle.pieces.specs.declared.Taken.{Taken}
use Rattle.pieces.specs.declared.Ended.{Ended}
use Rattle.pieces.specs.Pieces.{Reply, Took, Closed, more, stopped, held_as, took_as, ended_as}
use Rattle.abi.specs.Words.{written}
use Rattle.abi.specs.Loading.{ToldVerdict}
use Rattle.abi.specs.Arriving.{reply_words, ToldReply, TellsTook, TellsClosed}
use Rattle.abi.proofs.LoadingLaws.{tells-loaded}
use Rattle.abi.proofs.Meaning.{SameLoaded, only_one-loaded}

-- the number that a word stood for
module _ (call : ℕ → Took) {n m : ℕ} (same : n ≡ m) (given : Taken) {store : List ℕ} (meets : took_as given store ≡ call n) where
  pub tells-took : {taken taken_after answer after : List ℕ} {number : ℕ} → taken_after ≡ written (given.taken ∷ []) taken → ToldReply given.reply answer after number
      → TellsTook (call m) taken answer store taken_after after number
  unfolding took_as held_as
  tells-took {taken} {taken_after} {answer} {after} {number} kept told =
      subst (λ (k : ℕ). TellsTook (call k) taken answer store taken_after after number) same
      (subst (λ (t : Took). TellsTook t taken answer store taken_after after number) meets (record { store_is = refl; taken_is = kept; told = told }))

module _ (call : ℕ → Closed) {n m : ℕ} (same : n ≡ m) (given : Ended) {ps rs vs : List ℕ} (meets : ended_as given ps rs vs ≡ call n) where
  pub tells-closed : {taken taken_after answer after : List ℕ} {number : ℕ} → taken_after ≡ written (given.taken ∷ []) taken → ToldVerdict given.verdict answer after number
      → TellsClosed (call m) taken answer ps rs vs taken_after after number
  unfolding ended_as
  tells-closed {taken} {taken_after} {answer} {after} {number} kept told =
      subst (λ (k : ℕ). TellsClosed (call k) taken answer ps rs vs taken_after after number) same
      (subst (λ (t : Closed). TellsClosed t taken answer ps rs vs taken_after after number) meets (record { taken_is = kept; loads = tells-loaded refl told }))

-- ── no two replies have the same words ──

abbrev reply_of : List ℕ → Reply
reply_of words = cond (eqb (get_or words 0 0) 2) more (stopped (get_or words 1 0) (get_or words 2 0))

reply-back : (reply : Reply) → reply_of (reply_words reply) ≡ reply
reply-back (Ok done) = refl
reply-back (Err refused) = refl

pub replies-apart : (a b : Reply) → reply_words a ≡ reply_words b → a ≡ b
replies-apart a b same = sym (reply-back a) ∙ ap reply_of same ∙ reply-back b

-- ── no second answer ──

-- what a call with a piece may leave is one store, one number taken, one answer and one number
pub record SameTook (store store' taken taken' answer answer' : List ℕ) (number number' : ℕ) : Type 0 where
  pub stores : store ≡ store'
  pub takens : taken ≡ taken'
  pub answers : answer ≡ answer'
  pub numbers : number ≡ number'

pub only_one-took : {t : Took} {lent old store store' taken taken' answer answer' : List ℕ} {number number' : ℕ}
    → TellsTook t lent old store taken answer number → TellsTook t lent old store' taken' answer' number' → SameTook store store' taken taken' answer answer' number number'
only_one-took one two =
    record {
      stores = one.store_is ∙ sym two.store_is;
      takens = one.taken_is ∙ sym two.taken_is;
      answers = one.told.answer-is ∙ sym two.told.answer-is;
      numbers = one.told.number_is ∙ sym two.told.number_is;
    }

-- and an end call leaves what a load does, and one number taken
pub record SameClosed (parameters parameters' registers registers' variables variables' taken taken' answer answer' : List ℕ) (number number' : ℕ) : Type 0 where
  pub takens : taken ≡ taken'
  pub loads : SameLoaded parameters parameters' registers registers' variables variables' answer answer' number number'

pub only_one-closed : {c : Closed} {lent old parameters parameters' registers registers' variables variables' taken taken' answer answer' : List ℕ} {number number' : ℕ}
    → TellsClosed c lent old parameters registers variables taken answer number → TellsClosed c lent old parameters' registers' variables' taken' answer' number'
    → SameClosed parameters parameters' registers registers' variables variables' taken taken' answer answer' number number'
only_one-closed one two = record { takens = one.taken_is ∙ sym two.taken_is; loads = only_one-loaded one.loads two.loads }
