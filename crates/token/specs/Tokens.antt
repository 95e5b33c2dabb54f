-- All the tokens of a text, with their places, the end last. A bad token takes all the rest of the text, so that after
-- it only the end comes.
use Rattle.std.specs.Prelude.{true, false, List, [], ◌∷◌, ℕ, zero, suc, ◌+◌, ◌-◌, min, length, drop}
use Rattle.token.specs.Fair.{goes_on_lem}
use Rattle.token.specs.Scan.{scan_from, scan_at}
use Rattle.token.specs.declared.Token.{Token}
use Rattle.token.specs.declared.Token.TheVariants.{End}
use Rattle.token.specs.declared.Scanned.{Scanned}

-- a token and those that come after the place behind it; none comes after the end
unfoldable pub listed : Scanned → (ℕ → List Token) → List Token
listed r more = elim (goes_on_lem r.token) [ true ↦ r.token ∷ more r.next | false ↦ r.token ∷ [] ]

-- the tokens from i on, for a reader that has first to pass over k bytes, which the token before takes
unfoldable pub tokens_from : List ℕ → ℕ → ℕ → List Token
tokens_from [] i k = End i ∷ []
tokens_from (x ∷ s) i (suc k) = tokens_from s (i + 1) k
tokens_from (x ∷ s) i zero = listed (scan_from (x ∷ s) i) (λ (next : ℕ). tokens_from s (i + 1) (next - (i + 1)))

-- the tokens of a text at and after a place; proofs/Reading.antt: they are what scanning on from that place finds
unfoldable pub tokens_at : List ℕ → ℕ → List Token
tokens_at text at = tokens_from (drop at text) (min at (length text)) 0

-- the tokens of a text
abbrev pub tokens_of : List ℕ → List Token
tokens_of text = tokens_from text 0 0

-- where the reader stands when it has scanned k times
unfoldable pub walked : List ℕ → ℕ → ℕ
walked text zero = 0
walked text (suc k) = (scan_at text (walked text k)).next
