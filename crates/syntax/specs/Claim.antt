-- What reading a text comes to, in bytes, by the published grammar and the sizes of document 01: that it reads, or
-- refusal 3, 4 or 5 with its place.
-- `proofs/Answers.antt` shows that the reader answers this and nothing else.
use Rattle.std.specs.Prelude.{ℕ, ◌<◌, ◌≡◌, ◌⊎◌, true, false, List, [], ◌∷◌, length, get_or, Ok, Err}
use Rattle.std.proofs.Math.Option.{none, some}
use Rattle.token.specs.declared.Token.{Token}
use Rattle.token.specs.declared.Token.TheVariants.{End}
use Rattle.token.specs.Fair.{place_of, goes_on_lem}
use Rattle.token.specs.Tokens.{tokens_of}
use Rattle.token.specs.Kind.{kind_of, refused_as}
use Rattle.grammar.specs.Grammar.{Text, StopsAt}
use Rattle.syntax.specs.Published.{published, device-spec}
use Rattle.syntax.specs.Step.{Step}
use Rattle.syntax.specs.Sizes.{passed_at, NotBefore}

-- the kinds of tokens, as the grammar names them, up to the end
unfoldable pub kinds_in : List Token → List ℕ
kinds_in [] = []
kinds_in (t ∷ ts) = elim (goes_on_lem t) [ true ↦ kind_of t ∷ kinds_in ts | false ↦ [] ]

unfoldable pub kinds_of : List ℕ → List ℕ
kinds_of text = kinds_in (tokens_of text)

-- The token of a number, counted from 0. The end counts as a token, the last, at the text's length.
unfoldable pub token_no : List ℕ → ℕ → Token
token_no text k = get_or (tokens_of text) k (End (length text))

-- the tokens are a text of the published grammar
abbrev pub InLanguage : List ℕ → Type 0
InLanguage text = Text published device-spec (kinds_of text)

-- Refusals 3 and 4: `token` is the first such that no text of the grammar begins with the tokens up to this one. The
-- number is 3 where it is no token at all, else 4; the place is its first byte.
pub record Stops (text : List ℕ) (number place : ℕ) : Type 0 where
  pub token : ℕ
  pub stops : StopsAt (Text published device-spec) (kinds_of text) token
  pub number_is : number ≡ refused_as (token_no text token)
  pub place_is : place ≡ place_of (token_no text token)

-- Refusal 5: the place is that of the first token at which a size is passed, and the grammar goes on past it.
pub record Passes (text : List ℕ) (number place : ℕ) : Type 0 where
  pub is-five : number ≡ 5
  pub is-passed : passed_at text ≡ some place
  pub earlier : (n p : ℕ) → Stops text n p → place < p

-- THE CLAIM. The earliest place decides, and at one place the lower number.
unfoldable pub Right : List ℕ → Step → Type 0
Right text (Ok end) = (end ≡ length text) × InLanguage text × (passed_at text ≡ none)
Right text (Err refusal) =
    (Stops text refusal.number refusal.place × NotBefore (passed_at text) refusal.place) ⊎ Passes text refusal.number refusal.place
