-- A reader that follows the grammar answers rightly by the published one, in bytes; the sizes aside.
-- Assumes nothing.
use Prim.Native.Nat.{ℕ, ◌<◌}
use native.Mathlib.Omega.{arith}
use mathlib.Core.Path.{◌≡◌, refl, sym, ap, ◌∙◌, subst}
use mathlib.Core.Bool.{Bool, true, false, cond}
use mathlib.Core.Logic.{◌⊎◌, inl, inr}
use mathlib.Core.List.{List, [], ◌∷◌}
use lib.Dec.{eqb}
use lib.ListN.{length}
use borrow.Author.Tests.{eqb-true, eqb-false}
use Rattle.token.specs.declared.Token.{Token}
use Rattle.token.specs.declared.Token.TheVariants.{Name, Word, Number, Bits, Sign, End, Bad}
use Rattle.token.specs.Scan.{scan_at}
use Rattle.token.specs.Fair.{place_of, goes_on_lem, Whole}
use Rattle.token.specs.Kind.{kind_of, refused_as}
use Rattle.token.proofs.Laws.{scan-fair}
use Rattle.grammar.specs.Grammar.{Text, StopsAt}
use Rattle.syntax.specs.Published.{published, device-spec}
use Rattle.syntax.proofs.Factored.{rules, device-ll}
use Rattle.syntax.proofs.Checked.{rules-pass}
use Rattle.grammar.specs.Parser.{stopped}
use Rattle.grammar.specs.Places.{walk, then, Outcome, Passed, Halted}
use Rattle.grammar.proofs.Verdicts.{whole-accepted, whole-left, whole-halted}
use Rattle.syntax.proofs.Verdicts.{accepted-published, stopped-published}
use Rattle.syntax.specs.Step.{Step}
use Rattle.std.specs.Prelude.{Ok, Err}
use Rattle.syntax.specs.Reader.{unexpected, fixed_after}
use Rattle.syntax.specs.Claim.{kinds_of, token_no, InLanguage, Stops}
use Rattle.syntax.proofs.Source.{source, kinds_at, told, kinds-end, kinds-are, token-is}
use Rattle.syntax.proofs.Follows.{Beyond, Fits, Follows, then_at, step_of}

-- the end is the only token of its kind, and the last
ends : (end next : ℕ) (t : Token) → kind_of t ≡ 255 → Whole end next t → (goes_on_lem t ≡ false) × (next ≡ end)
ends end next (Name p n) e w = absurd (omega arith)
ends end next (Word p n) e w = absurd (omega arith)
ends end next (Number p v) e w = absurd (omega arith)
ends end next (Bits p n) e w = absurd (omega arith)
ends end next (Sign p s) e w = absurd (omega arith)
ends end next (End p) e w = (refl, w.1)
ends end next (Bad p) e w = absurd (omega arith)

module _ (text : List ℕ) where
  -- ---- by the grammar alone

  -- What the grammar says of an answer, sizes aside.
  unfoldable pub ByGrammar : Step → Type 0
  ByGrammar (Ok end) = (end ≡ length text) × InLanguage text
  ByGrammar (Err stop) = Stops text stop.number stop.place ⊎ ((stop.number ≡ 5) × ((n p : ℕ) → Stops text n p → stop.place < p))

  -- a token where the language stops, as the reader finds it
  stops_at : (k q : ℕ) → StopsAt (Text published device-spec) (kinds_of text) k → q ≡ walk (source text) k 0
      → Stops text (refused_as (scan_at text q).token) (place_of (scan_at text q).token)
  stops_at k q h e = record { token = k; stops = h; number_is = ap refused_as here; place_is = ap place_of here }
    where
      here : (scan_at text q).token ≡ token_no text k
      here = ap (λ (n : ℕ). (scan_at text n).token) e ∙ token-is text k h.inside

  -- what the theory says of the whole device, with the end
  said : Outcome → Step
  said o = fixed_after text 255 (step_of text o)

  published-text : Text published device-spec (kinds_at text 0) → InLanguage text
  published-text = subst (λ (ts : List ℕ). Text published device-spec ts) (kinds-are text)

  published-stop : (k : ℕ) → StopsAt (Text published device-spec) (kinds_at text 0) k → StopsAt (Text published device-spec) (kinds_of text) k
  published-stop k = subst (λ (ts : List ℕ). StopsAt (Text published device-spec) ts k) (kinds-are text)

  passed-right : (q : ℕ) → then rules (source text) device-ll (Passed 0) ≡ Passed q → ByGrammar (fixed_after text 255 (Ok q))
  unfolding ByGrammar fixed_after unexpected
  passed-right q e = by (eqb (kind_of (scan_at text q).token) 255) refl (told text q)
    where
      by : (c : Bool) → eqb (kind_of (scan_at text q).token) 255 ≡ c
          → ((kinds_at text q ≡ []) × (kind_of (scan_at text q).token ≡ 255)) ⊎ (kinds_at text q ≡ kind_of (scan_at text q).token ∷ kinds_at text (scan_at text q).next)
          → ByGrammar (cond c (Ok (scan_at text q).next) (unexpected (scan_at text q).token))
      by true i t =
          let z = ends (length text) (scan_at text q).next (scan_at text q).token (eqb-true _ 255 i) (scan-fair text q).whole in
          (z.1, published-text ((accepted-published (kinds_at text 0)).0 (whole-accepted rules rules-pass device-ll (source text) 0 q e (kinds-end text q z.0))))
      by false i (inl p) = absurd (eqb-false _ 255 i p.1)
      by false i (inr p) =
          let z = whole-left rules rules-pass device-ll (source text) 0 q (kind_of (scan_at text q).token) (kinds_at text (scan_at text q).next) e p in
          inl (stops_at z.0 q (published-stop z.0 ((stopped-published (kinds_at text 0) z.0).0 z.1)) z.2)

  halted-right : (q : ℕ) → then rules (source text) device-ll (Passed 0) ≡ Halted q → ByGrammar (unexpected (scan_at text q).token)
  unfolding ByGrammar unexpected
  halted-right q e =
      let z = whole-halted rules rules-pass device-ll (source text) 0 q e in
      inl (stops_at z.0 q (published-stop z.0 ((stopped-published (kinds_at text 0) z.0).0 z.1)) z.2)

  said-right : (o : Outcome) → then rules (source text) device-ll (Passed 0) ≡ o → ByGrammar (said o)
  unfolding said step_of unexpected fixed_after
  said-right (Passed q) e = passed-right q e
  said-right (Halted q) e = halted-right q e

  -- no second answer, by the grammar
  pub stops-once : (n p m q : ℕ) → Stops text n p → Stops text m q → (n ≡ m) × (p ≡ q)
  stops-once n p m q r s =
      let v : stopped r.token ≡ stopped s.token = sym ((stopped-published (kinds_of text) r.token).1 r.stops) ∙ (stopped-published (kinds_of text) s.token).1 s.stops in
      let j : r.token ≡ s.token = cc in
      (r.number_is ∙ ap (λ (i : ℕ). refused_as (token_no text i)) j ∙ sym s.number_is, r.place_is ∙ ap (λ (i : ℕ). place_of (token_no text i)) j ∙ sym s.place_is)

  -- a place that the grammar goes beyond is before the token where it stops
  before-stop : (place : ℕ) (t : Step) → ByGrammar (fixed_after text 255 t) → Beyond text place t → (n p : ℕ) → Stops text n p → place < p
  unfolding ByGrammar fixed_after Beyond unexpected
  before-stop place (Ok q) g b n p s = by (eqb (kind_of (scan_at text q).token) 255) g
    where
      by : (c : Bool) → ByGrammar (cond c (Ok (scan_at text q).next) (unexpected (scan_at text q).token)) → place < p
      by true r = absurd (s.stops.no_text r.1)
      by false (inl r) = omega (arith, b.0, b.1, (scan-fair text q).from, (stops-once _ _ n p r s).1)
      by false (inr r) = omega (arith, b.0, b.1, (scan-fair text q).from, r.1 n p s)
  before-stop place (Err stop) (inl r) b n p s = omega (arith, (stops-once stop.number stop.place n p r s).1)
  before-stop place (Err stop) (inr r) b n p s = omega (arith, r.1 n p s)

  -- A reader that follows the grammar, and then asks for the end, answers rightly.
  pub whole-right : (f : Step → Step) → Follows text device-ll f → ByGrammar (fixed_after text 255 (f (Ok 0)))
  unfolding then_at ByGrammar fixed_after step_of said
  whole-right f r = by (f (Ok 0)) (r.fits (Ok 0))
    where
      right : ByGrammar (fixed_after text 255 (then_at text device-ll (Ok 0)))
      right = said-right (then rules (source text) device-ll (Passed 0)) refl

      by : (s : Step) → Fits text s (then_at text device-ll (Ok 0)) → ByGrammar (fixed_after text 255 s)
      by s (inl (p, e, b)) =
          subst (λ (t : Step). ByGrammar (fixed_after text 255 t)) (sym e) (inr (refl, before-stop p (then_at text device-ll (Ok 0)) right b))
      by s (inr e) = subst (λ (t : Step). ByGrammar (fixed_after text 255 t)) (sym e) right
