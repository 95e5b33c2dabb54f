-- THE ANSWER OF THE READER: it is what specs/Claim.antt says, and nothing else is.
-- Assumes nothing.
use Prim.Native.Nat.{ℕ, ◌≤◌}
use native.Mathlib.Omega.{arith}
use mathlib.Core.Path.{◌≡◌, refl, sym, ap, ◌∙◌, subst}
use mathlib.Core.Logic.{◌↔◌, inl, inr}
use mathlib.Core.List.{List, []}
use lib.ListN.{length}
use mathlib.Core.Option.{Option, none, none-ne-some, some-injective}
use Rattle.std.specs.Prelude.{Ok, Err}
use Rattle.token.specs.declared.Refusal.{Refusal}
use Rattle.syntax.specs.Step.{Step, refused_at, too_much_at}
use Rattle.syntax.specs.Sizes.{passed_at, NotBefore, Kept}
use Rattle.syntax.specs.Claim.{token_no, InLanguage, Stops, Passes, Right}
use Rattle.syntax.specs.Text.{Declaration, reading_with, listed, reading}
use Rattle.syntax.proofs.Claims.{ByGrammar, stops-once}
use Rattle.syntax.proofs.TextFollows.{reading-grammatical}
use Rattle.syntax.proofs.Tally.{not_five}
use Rattle.syntax.proofs.TallyText.{sizes-kept}

-- a refusal is known by its number and its place
same_refusal : (a b : Refusal) → a.number ≡ b.number → a.place ≡ b.place → ◌≡◌ {A = Step} (Err a) (Err b)
same_refusal a b e g = let w : a ≡ b = rw (e, g) in ap Err w

module _ (text : List ℕ) where
  stops-not_five : (n p : ℕ) → Stops text n p → n ≡ 5 → ⊥
  stops-not_five n p s e = not_five (token_no text s.token) (sym s.number_is ∙ e)

  -- what the grammar and the sizes say, each for itself, is the claim
  both_right : (s : Step) → ByGrammar text s → Kept (passed_at text) s → Right text s
  unfolding ByGrammar Kept Right
  both_right (Ok end) g z = (g.0, g.1, z)
  both_right (Err stop) (inl s) (inl z) = absurd (stops-not_five _ _ s z.0)
  both_right (Err stop) (inl s) (inr z) = inl (s, z.1)
  both_right (Err stop) (inr g) (inl z) = inr (record { is-five = z.0; is-passed = z.1; earlier = g.1 })
  both_right (Err stop) (inr g) (inr z) = absurd (z.0 g.0)

  -- a stop and a size that is passed are not both first
  apart : (n p m q : ℕ) → Stops text n p → NotBefore (passed_at text) p → Passes text m q → ⊥
  apart n p m q s h r =
      let le : p ≤ q = subst (λ (w : Option ℕ). NotBefore w p) r.is-passed h in
      omega (arith, r.earlier n p s)

  -- NO SECOND ANSWER IS RIGHT.
  pub right-once : (s t : Step) → Right text s → Right text t → s ≡ t
  unfolding Right
  right-once (Ok a) (Ok b) r q = ap Ok (r.0 ∙ sym q.0)
  right-once (Ok a) (Err stop) r (inl q) = absurd (q.0.stops.no_text r.1)
  right-once (Ok a) (Err stop) r (inr q) = absurd (none-ne-some _ (sym r.2 ∙ q.is-passed))
  right-once (Err stop) (Ok b) (inl r) q = absurd (r.0.stops.no_text q.1)
  right-once (Err stop) (Ok b) (inr r) q = absurd (none-ne-some _ (sym q.2 ∙ r.is-passed))
  right-once (Err a) (Err b) (inl r) (inl s) = let z = stops-once text _ _ _ _ r.0 s.0 in same_refusal a b z.0 z.1
  right-once (Err a) (Err b) (inl r) (inr s) = absurd (apart _ _ _ _ r.0 r.1 s)
  right-once (Err a) (Err b) (inr r) (inl s) = absurd (apart _ _ _ _ s.0 s.1 r)
  right-once (Err a) (Err b) (inr r) (inr s) = same_refusal a b (r.is-five ∙ sym s.is-five) (some-injective _ _ (sym r.is-passed ∙ s.is-passed))

  -- The reading of a text, whatever is made of its declarations, answers rightly.
  pub reading-right : {X : Type 0} (judge : X → Declaration → X) (x : X) → Right text (reading_with judge text x).step
  reading-right judge x = both_right (reading_with judge text x).step (reading-grammatical judge text x) (sizes-kept judge text x)

  -- THE CLAIM: a text is answered by a step exactly when that step is right.
  pub answers-exactly : (s : Step) → ((reading text).step ≡ s) ↔ Right text s
  unfolding reading
  answers-exactly s =
      (λ e. subst (Right text) e (reading-right listed []), λ r. right-once (reading text).step s (reading-right listed []) r)

  -- ---- its three cases, one by one

  -- A text reads exactly when its tokens are a text of the published grammar and no size is passed.
  pub reads-exactly : ((reading text).step ≡ Ok (length text)) ↔ (InLanguage text × (passed_at text ≡ none))
  unfolding Right
  reads-exactly = (λ e. let r = (answers-exactly (Ok (length text))).0 e in (r.1, r.2), λ r. (answers-exactly (Ok (length text))).1 (refl, r.0, r.1))

  -- Refusals 3 and 4 are given exactly where no text of the grammar goes on, if no size is passed before.
  pub stops-exactly : (n p : ℕ) → (((reading text).step ≡ refused_at n p) × (n ≡ 5 → ⊥)) ↔ (Stops text n p × NotBefore (passed_at text) p)
  unfolding Right
  stops-exactly n p = (λ e. by ((answers-exactly (refused_at n p)).0 e.0) e.1, λ r. ((answers-exactly (refused_at n p)).1 (inl r), stops-not_five n p r.0))
    where
      by : Right text (refused_at n p) → (n ≡ 5 → ⊥) → Stops text n p × NotBefore (passed_at text) p
      by (inl r) other = r
      by (inr r) other = absurd (other r.is-five)

  -- Refusal 5 is given exactly at the first token that passes a size, if the grammar goes on past it.
  pub passes-exactly : (p : ℕ) → ((reading text).step ≡ too_much_at p) ↔ Passes text 5 p
  unfolding Right
  passes-exactly p = (λ e. by ((answers-exactly (too_much_at p)).0 e), λ r. (answers-exactly (too_much_at p)).1 (inr r))
    where
      by : Right text (too_much_at p) → Passes text 5 p
      by (inl r) = absurd (stops-not_five 5 p r.0 refl)
      by (inr r) = r
