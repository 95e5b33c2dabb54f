-- How words stand for the reply to a piece, and what the two calls for texts in pieces promise.
-- Assumes nothing.
use Rattle.std.specs.Prelude.{ℕ, ◌≡◌, List, [], ◌∷◌, get_or, Ok, Err}
use Rattle.pieces.specs.Pieces.{Reply, Took, Closed}
use Rattle.abi.specs.Words.{written}
use Rattle.abi.specs.Loading.{TellsLoaded}

-- how many bytes of the store are taken: the lent word. Where none is lent the limit counts as passed, so that no piece
-- is taken and lost
unfoldable pub taken_of : List ℕ → ℕ
taken_of words = get_or words 0 8193

-- 0, a refusal's number and its place, and 0; or 2 for "more"
abbrev pub reply_words : Reply → List ℕ
reply_words (Ok more) = 2 ∷ 0 ∷ 0 ∷ 0 ∷ []
reply_words (Err refused) = 0 ∷ refused.number ∷ refused.place ∷ 0 ∷ []

abbrev pub reply_number : Reply → ℕ
reply_number (Ok more) = 0
reply_number (Err refused) = refused.number

-- the reply, told in lent words
pub record ToldReply (reply : Reply) (answer after : List ℕ) (number : ℕ) : Type 0 where
  pub answer-is : after ≡ written (reply_words reply) answer
  pub number_is : number ≡ reply_number reply

-- a call with a piece that comes to this, lent these words, leaves this store and these words, and returns this number
pub record TellsTook (took : Took) (taken answer : List ℕ) (store taken_after after : List ℕ) (number : ℕ) : Type 0 where
  pub store_is : store ≡ took.held.store
  pub taken_is : taken_after ≡ written (took.held.taken ∷ []) taken
  pub told : ToldReply took.reply answer after number

-- an end call that comes to this, lent these words, leaves these tables and these words, and returns this number
pub record TellsClosed (closed : Closed) (taken answer : List ℕ) (parameters registers variables taken_after after : List ℕ) (number : ℕ) : Type 0 where
  pub taken_is : taken_after ≡ written (closed.taken ∷ []) taken
  pub loads : TellsLoaded closed.loaded answer parameters registers variables after number
