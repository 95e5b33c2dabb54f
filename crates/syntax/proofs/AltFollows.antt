-- Two readers as one that follows a choice of their grammars, where the kind of the next token tells them apart.
-- Assumes nothing.
use Prim.Native.Nat.{ℕ}
use mathlib.Core.Path.{◌≡◌, refl, sym, ap, ◌∙◌, subst}
use mathlib.Core.Bool.{Bool, true, false, not, So}
use mathlib.Core.List.{List, [], ◌∷◌}
use lib.Dec.{eqb}
use borrow.Author.Tests.{eqb-true, eqb-false}
use Rattle.token.specs.Scan.{scan_at}
use Rattle.grammar.specs.Grammar.{Grammar, ◌▸◌, ◌∣◌}
use Rattle.grammar.specs.Check.{nullable, first}
use Rattle.syntax.specs.Step.{Step}
use Rattle.std.specs.Prelude.{Ok, Err}
use Rattle.syntax.specs.Reader.{unexpected}
use Rattle.syntax.proofs.Factored.{rules}
use Rattle.syntax.proofs.Follows.{Fits, Follows, then_at, kind_at, then-seq-at, stopped-kind}
use Rattle.syntax.proofs.ExpressionFollows.{alt-first, alt-second}

module _ (text : List ℕ) where
  -- a choice that the first's kind tells
  pub alt-follows : (k : ℕ) (a b : Grammar) {f h : Step → Step} → So (not (nullable a)) → So (not (nullable b)) → first rules a ≡ k ∷ [] → eqb 255 k ≡ false → Follows text a f → Follows text b h
      → (r : Step → Step) → ((s : Step) → eqb (kind_at text s) k ≡ true → r s ≡ f s) → ((s : Step) → eqb (kind_at text s) k ≡ false → r s ≡ h s) → Follows text (a ∣ b) r
  alt-follows k a b {f} {h} na nb tells e ra rb r on off = record {
    stays = λ stop. off (Err stop) (stopped-kind text stop k e) ∙ rb.stays stop;
    fits = λ s. by s (eqb (kind_at text s) k) refl;
  }
    where
      by : (s : Step) (c : Bool) → eqb (kind_at text s) k ≡ c → Fits text (r s) (then_at text (a ∣ b) s)
      by s true i = subst (λ (t : Step). Fits text t (then_at text (a ∣ b) s)) (sym (on s i)) (subst (λ (t : Step). Fits text (f s) t) (sym (alt-first text k a b na nb tells e s (eqb-true _ k i))) (ra.fits s))
      by s false i = subst (λ (t : Step). Fits text t (then_at text (a ∣ b) s)) (sym (off s i)) (subst (λ (t : Step). Fits text (h s) t) (sym (alt-second text k a b na nb tells e s (eqb-false _ k i))) (rb.fits s))

  -- at a token of no such kind the grammar stops
  abbrev pub Refuses : ℕ → Grammar → Type 0
  Refuses k a = (at : ℕ) → (kind_at text (Ok at) ≡ k → ⊥) → then_at text a (Ok at) ≡ unexpected (scan_at text at).token

  pub seq-refused : (k : ℕ) (a b : Grammar) → Refuses k a → Refuses k (a ▸ b)
  unfolding then_at unexpected
  seq-refused k a b r at i = then-seq-at text a b (Ok at) ∙ ap (λ (t : Step). then_at text b t) (r at i)

  -- a choice that the second's kind tells: where neither can begin, both are refused alike
  pub alt-follows-second : (j k : ℕ) (a b : Grammar) {f h : Step → Step} → So (not (nullable a)) → So (not (nullable b)) → first rules a ≡ j ∷ []
      → eqb 255 j ≡ false → eqb 255 k ≡ false → eqb j k ≡ false → Refuses j a → Refuses k b → Follows text a f → Follows text b h
      → (r : Step → Step) → ((s : Step) → eqb (kind_at text s) k ≡ true → r s ≡ h s) → ((s : Step) → eqb (kind_at text s) k ≡ false → r s ≡ f s) → Follows text (a ∣ b) r
  unfolding then_at
  alt-follows-second j k a b {f} {h} na nb tells e g apart no-a no-b ra rb r on off = record {
    stays = λ stop. off (Err stop) (stopped-kind text stop k g) ∙ ra.stays stop;
    fits = λ s. by s (eqb (kind_at text s) k) refl (eqb (kind_at text s) j) refl;
  }
    where
      neither : (s : Step) → (kind_at text s ≡ j → ⊥) → (kind_at text s ≡ k → ⊥) → then_at text a s ≡ then_at text b s
      neither (Ok at) x y = no-a at x ∙ sym (no-b at y)
      neither (Err stop) x y = refl

      fit : (s t : Step) → r s ≡ t → (c : Grammar) → then_at text (a ∣ b) s ≡ then_at text c s → Fits text t (then_at text c s) → Fits text (r s) (then_at text (a ∣ b) s)
      fit s t is c same fits = subst (λ (u : Step). Fits text u (then_at text (a ∣ b) s)) (sym is) (subst (λ (u : Step). Fits text t u) (sym same) fits)

      by : (s : Step) (c : Bool) → eqb (kind_at text s) k ≡ c → (d : Bool) → eqb (kind_at text s) j ≡ d → Fits text (r s) (then_at text (a ∣ b) s)
      by s true x d y = fit s (h s) (on s x) b (alt-second text j a b na nb tells e s (λ z. eqb-false j k apart (sym z ∙ eqb-true _ k x))) (rb.fits s)
      by s false x true y = fit s (f s) (off s x) a (alt-first text j a b na nb tells e s (eqb-true _ j y)) (ra.fits s)
      by s false x false y =
          fit s (f s) (off s x) a (alt-second text j a b na nb tells e s (eqb-false _ j y) ∙ sym (neither s (eqb-false _ j y) (eqb-false _ k x))) (ra.fits s)
