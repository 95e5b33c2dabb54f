-- The reader takes the longest match: the slice that a token takes is a lexeme of its kind, and no longer slice from
-- there is a lexeme at all. Assumes nothing.
use mathlib.Core.List.{List, [], ◌∷◌}
use mathlib.Core.Logic.{⊎_elim}
use mathlib.Core.Path.{◌≡◌, refl, sym, ap, ◌∙◌}
use Prim.Native.Nat.{ℕ, ◌+◌, ◌-◌, min}
use native.Mathlib.Omega.{arith}
use lib.Dec.{eqb}
use lib.ListN.{length, drop, drop_of_length-le}
use Rattle.token.specs.Bytes.{begins, within}
use Rattle.token.specs.Gap.{gap, gap_at}
use Rattle.token.specs.Word.{is_letter}
use Rattle.token.specs.Scan.{sign_token, sign_here, sign_from, token_by, token_from, scan_at}
use Rattle.token.specs.Fair.{place_of}
use Rattle.token.specs.Lexeme.{is_decimal, Longest}
use Rattle.token.proofs.Bools.{either-by, le-or-lt}
use Rattle.token.proofs.Table.{at}
use Rattle.token.proofs.Laws.{scan-past}
use Rattle.token.proofs.FirstByte.{sign-lexeme, Taken}
use Rattle.token.proofs.LongestName.{name-taken}
use Rattle.token.proofs.LongestNumber.{number-taken}
use Rattle.token.proofs.LongestBits.{bits-taken}
use Rattle.token.proofs.LongestSign.{sign-taken, comment-taken}

token-taken : (s : List ℕ) (i : ℕ) → Taken s i (token_from s i)
unfolding token_from token_by sign_from sign_here is_decimal
token-taken [] i = (refl, refl)
token-taken (x ∷ s) i =
    either-by (Taken (x ∷ s) i) (is_letter x) (name-taken x s i)
    (λ l. either-by (Taken (x ∷ s) i) (within 48 57 x) (number-taken x s i l)
    (λ d. either-by (Taken (x ∷ s) i) (eqb x 39) (bits-taken x s i)
    (λ q.
    either-by (λ (n : ℕ). Taken (x ∷ s) i (sign_token (i + length (x ∷ s)) i n)) (begins (47 ∷ 42 ∷ []) (x ∷ s)) (comment-taken x s (i + length (x ∷ s)) i (λ t. sign-lexeme x t l d q))
    (λ e. sign-taken x s (i + length (x ∷ s)) i (λ t. sign-lexeme x t l d q)))))

same_rest : (text : List ℕ) (i : ℕ) → drop (min i (length text)) text ≡ drop i text
same_rest text i =
    ⊎_elim (λ inside. let e : min i (length text) ≡ i = omega arith in ap (λ (n : ℕ). drop n text) e)
    (λ past. drop_of_length-le text {i = min i (length text)} (omega arith) ∙ sym (drop_of_length-le text {i = i} (omega arith)))
    (le-or-lt i (length text))

-- a token stands where the gap before it ends
pub scan-place : (text : List ℕ) (at : ℕ) → drop (place_of (scan_at text at).token) text ≡ drop (gap_at text gap at) text
scan-place text at =
    let place = gap_at text gap at in
    rw (scan-past text at, (token-taken (drop place text) (min place (length text))).0) (same_rest text place)

-- THE LONGEST MATCH, for any text and any place: the token that is found takes the longest slice from its own place
-- that may be a token; it is the end only where no byte is left, and bad only as refusal 3 says
pub scan_longest :
    (text : List ℕ) (at : ℕ)
    → Longest (drop (place_of (scan_at text at).token) text) ((scan_at text at).next - place_of (scan_at text at).token) (scan_at text at).token
scan_longest text at =
    let place = gap_at text gap at in
    let taken = token-taken (drop place text) (min place (length text)) in
    rw (scan-past text at, taken.0, same_rest text place) taken.1
