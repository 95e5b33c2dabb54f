-- The list of a text's tokens is what scanning on finds, one token after the other. Assumes nothing.
use mathlib.Core.Bool.{Bool, true, false}
use mathlib.Core.List.{List, [], ◌∷◌}
use mathlib.Core.Path.{◌≡◌, refl, sym, ap, ◌∙◌}
use Prim.Native.Nat.{ℕ, zero, suc, ◌+◌, ◌-◌, ◌≤◌, ◌<◌, min}
use native.Mathlib.Nat.{add-zero}
use native.Mathlib.Omega.{arith}
use lib.ListN.{length, get_or, drop, length-drop}
use lib.Seq.{drop-drop, drop-nil, get_or-drop}
use Rattle.token.specs.Gap.{gap_from}
use Rattle.token.specs.Scan.{token_from, scan_from, scan_at}
use Rattle.token.specs.Fair.{goes_on_lem}
use Rattle.token.specs.Tokens.{listed, tokens_from, tokens_at, tokens_of, walked}
use Rattle.token.specs.declared.Token.{Token}
use Rattle.token.specs.declared.Scanned.{Scanned}
use Rattle.token.proofs.Laws.{scan-is, passes}
use Rattle.token.proofs.Bools.{either}

-- bytes that the token before takes are passed over
passed_over : (s : List ℕ) (i k : ℕ) → k ≤ length s → tokens_from s i k ≡ tokens_from (drop k s) (i + k) 0
unfolding tokens_from
passed_over [] i zero h = let here : i ≡ i + 0 = omega arith in ap (λ (j : ℕ). tokens_from [] j 0) here
passed_over [] i (suc k) h = absurd (omega arith)
passed_over (x ∷ s) i zero h = let here : i ≡ i + 0 = omega arith in ap (λ (j : ℕ). tokens_from (x ∷ s) j 0) here
passed_over (x ∷ s) i (suc k) h =
    let here : i + 1 + k ≡ i + suc k = omega arith in
    passed_over s (i + 1) k (omega arith) ∙ ap (λ (j : ℕ). tokens_from (drop k s) j 0) here

-- two lists of a token and what comes after it are the same, where the reader goes on only if it does
listed_same : (r : Scanned) (f g : ℕ → List Token) → (goes_on_lem r.token ≡ true → f r.next ≡ g r.next) → listed r f ≡ listed r g
unfolding listed
listed_same r f g same = go (goes_on_lem r.token) refl
  where
    go : (b : Bool) → goes_on_lem r.token ≡ b
        → ◌≡◌ {A = List Token} (elim b [ true ↦ r.token ∷ f r.next | false ↦ r.token ∷ [] ]) (elim b [ true ↦ r.token ∷ g r.next | false ↦ r.token ∷ [] ])
    go true e = ap (λ (more : List Token). r.token ∷ more) (same e)
    go false e = refl

module _ (text : List ℕ) where
  -- THE TOKENS FROM A PLACE ON: the next one, and then those from the place behind it
  pub tokens_at_lem : (at : ℕ) → tokens_at text at ≡ listed (scan_at text at) (tokens_at text)
  unfolding tokens_at tokens_from listed scan_from token_from gap_from
  tokens_at_lem at = go (drop at text) refl ∙ ap (λ (r : Scanned). listed r (tokens_at text)) (sym (scan-is text at))
    where
      -- past a token that begins with x, at a place inside the text
      behind : (x : ℕ) (s : List ℕ) (next : ℕ) → drop at text ≡ x ∷ s → at < next → next ≤ length text
          → tokens_from s (at + 1) (next - (at + 1)) ≡ tokens_at text next
      behind x s next e ahead inside =
          let k : ℕ = next - (at + 1) in
          let there : at + 1 + k ≡ next = omega arith in
          let stays : next ≡ min next (length text) = omega arith in
          let split : at + suc k ≡ next = omega arith in
          let rest : drop k s ≡ drop next text = ap (drop (suc k)) (sym e) ∙ drop-drop (suc k) at text ∙ ap (λ (n : ℕ). drop n text) split in
          passed_over s (at + 1) k (omega (arith, ap length e, length-drop at text))
          ∙ ap (λ (n : ℕ). tokens_from (drop k s) n 0) (there ∙ stays)
          ∙ ap (λ (t : List ℕ). tokens_from t (min next (length text)) 0) rest

      go : (s : List ℕ) → drop at text ≡ s → tokens_from s (min at (length text)) 0 ≡ listed (scan_from s (min at (length text))) (tokens_at text)
      go [] e = rw (drop-nil {A = ℕ} (min at (length text) - min at (length text)))
      go (x ∷ s) e =
          let inside : min at (length text) ≡ at = omega (arith, ap length e, length-drop at text) in
          let found : scan_at text at ≡ scan_from (x ∷ s) at = scan-is text at ∙ rw (e, inside) in
          rw inside
          (listed_same (scan_from (x ∷ s) at) (λ (next : ℕ). tokens_from s (at + 1) (next - (at + 1))) (tokens_at text)
          (λ on.
          let ahead = passes text at (ap (λ (r : Scanned). goes_on_lem r.token) found ∙ on) in
          behind x s (scan_from (x ∷ s) at).next e (omega (arith, ahead.0, ap (λ (r : Scanned). r.next) found)) (omega (arith, ahead.1, ap (λ (r : Scanned). r.next) found))))

  -- after the end there is nothing; after any other token, the tokens from the place behind it
  pub tokens-end : (at : ℕ) → goes_on_lem (scan_at text at).token ≡ false → tokens_at text at ≡ (scan_at text at).token ∷ []
  unfolding listed
  tokens-end at e = tokens_at_lem at ∙ rw (listed, e)

  pub tokens-on : (at : ℕ) → goes_on_lem (scan_at text at).token ≡ true → tokens_at text at ≡ (scan_at text at).token ∷ tokens_at text (scan_at text at).next
  unfolding listed
  tokens-on at e = tokens_at_lem at ∙ rw (listed, e)

  -- the list begins with the token there
  first-is : (at : ℕ) (d : Token) → get_or (tokens_at text at) 0 d ≡ (scan_at text at).token
  unfolding listed
  first-is at d = rw (tokens_at_lem at) (either (λ (ts : List Token). get_or ts 0 d ≡ (scan_at text at).token) (goes_on_lem (scan_at text at).token) refl refl)

  -- what is left of the list after k tokens stands behind them in the text
  left_is : (k : ℕ) → k < length (tokens_of text) → drop k (tokens_of text) ≡ tokens_at text (walked text k)
  unfolding tokens_at walked
  left_is zero h = let here : 0 ≡ min 0 (length text) = omega arith in ap (λ (i : ℕ). tokens_from text i 0) here
  left_is (suc k) h = go (goes_on_lem (scan_at text (walked text k)).token) refl (left_is k (omega arith))
    where
      step : (ts : List Token) → drop k (tokens_of text) ≡ ts → drop (suc k) (tokens_of text) ≡ drop 1 ts
      step ts e = let one : k + 1 ≡ suc k = omega arith in sym (ap (λ (n : ℕ). drop n (tokens_of text)) one) ∙ sym (drop-drop 1 k (tokens_of text)) ∙ ap (drop 1) e

      go : (b : Bool) → goes_on_lem (scan_at text (walked text k)).token ≡ b → drop k (tokens_of text) ≡ tokens_at text (walked text k)
          → drop (suc k) (tokens_of text) ≡ tokens_at text (scan_at text (walked text k)).next
      go true on e = step _ (e ∙ tokens-on (walked text k) on)
      go false off e = absurd (omega (arith, h, length-drop k (tokens_of text), ap length (e ∙ tokens-end (walked text k) off)))

  -- TOKEN k OF THE LIST is what scanning k times from the start of the text and once more finds
  pub tokens-scanned : (k : ℕ) (d : Token) → k < length (tokens_of text) → get_or (tokens_of text) k d ≡ (scan_at text (walked text k)).token
  tokens-scanned k d h =
      ap (λ (n : ℕ). get_or (tokens_of text) n d) (sym (add-zero k)) ∙ sym (get_or-drop k (tokens_of text) 0 d)
      ∙ ap (λ (ts : List Token). get_or ts 0 d) (left_is k h) ∙ first-is (walked text k) d
