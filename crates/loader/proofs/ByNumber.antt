-- The answer of loading, case by case: accepted, 3 to 5, 6 to 15, and 16, each exactly when document 01 says so.
-- Assumes nothing.
use Prim.Native.Nat.{ℕ, ◌≤◌}
use native.Mathlib.Omega.{arith}
use mathlib.Core.Path.{◌≡◌, sym, ap}
use mathlib.Core.Bool.{false, false≢true}
use mathlib.Core.Logic.{◌↔◌, inl, inr}
use mathlib.Core.List.{List}
use Rattle.syntax.specs.Step.{refused_at}
use Rattle.syntax.specs.Claim.{Right}
use Rattle.tables.specs.View.{Tables}
use Rattle.std.specs.Prelude.{Ok, Err}
use Rattle.loader.specs.Verdict.{Verdict, accepted, refused}
use Rattle.loader.specs.Load.{is_accepted, is_short, is_long, load_of}
use Rattle.loader.specs.Claim.{Accepts, Breaks, Misses, RightRead, RightVerdict}
use Rattle.loader.proofs.Numbers.{reading-number}
use Rattle.loader.proofs.Exactly.{loads-exactly}

abbrev number_in : Verdict → ℕ
number_in (Ok counts) = 0
number_in (Err r) = r.number

module _ (text : List ℕ) (t : Tables) where
  -- neither 1 nor 2 is given
  abbrev pub Fits : Type 0
  Fits = (is_short t ≡ false) × (is_long text ≡ false)

  -- a refusal from 3 on is not of the tables' sizes, nor of the text's
  from-three : (number place : ℕ) → 3 ≤ number → (load_of text t).verdict ≡ refused number place → Fits × RightRead text (refused number place)
  unfolding RightVerdict
  from-three number place l e = by ((loads-exactly text t (refused number place)).0 e)
    where
      by : RightVerdict text t (refused number place) → Fits × RightRead text (refused number place)
      by (inl (a, z)) = let n : number ≡ 1 = ap number_in z in absurd (omega arith)
      by (inr (inl (a, b, z))) = let n : number ≡ 2 = ap number_in z in absurd (omega arith)
      by (inr (inr (a, b, r))) = ((a, b), r)

  given : (v : Verdict) → Fits → RightRead text v → (load_of text t).verdict ≡ v
  unfolding RightVerdict
  given v f r = (loads-exactly text t v).1 (inr (inr (f.0, f.1, r)))

  pub accepted-exactly : (p r v : ℕ) → ((load_of text t).verdict ≡ accepted p r v) ↔ (Fits × Accepts text p r v)
  unfolding RightVerdict RightRead is_accepted
  accepted-exactly p r v = (λ e. by ((loads-exactly text t (accepted p r v)).0 e), λ h. given (accepted p r v) h.0 h.1)
    where
      by : RightVerdict text t (accepted p r v) → Fits × Accepts text p r v
      by (inl (a, z)) = absurd (false≢true (sym (ap is_accepted z)))
      by (inr (inl (a, b, z))) = absurd (false≢true (sym (ap is_accepted z)))
      by (inr (inr (a, b, h))) = ((a, b), h)

  pub unread-exactly : (number place : ℕ) → (((load_of text t).verdict ≡ refused number place) × (3 ≤ number) × (number ≤ 5)) ↔ (Fits × Right text (refused_at number place))
  unfolding RightRead
  unread-exactly number place = (λ h. let f = from-three number place h.1 h.0 in (f.0, by h.2 f.1), back)
    where
      by : number ≤ 5 → RightRead text (refused number place) → Right text (refused_at number place)
      by m (inl u) = u.stops
      by m (inr (inl b)) = absurd (omega (arith, b.1.least))
      by m (inr (inr b)) = absurd (omega (arith, b.is_sixteen))

      back : Fits × Right text (refused_at number place) → ((load_of text t).verdict ≡ refused number place) × (3 ≤ number) × (number ≤ 5)
      back h =
          let n = reading-number text number place h.1 in
          (given (refused number place) h.0 (inl (record { least = n.0; most = n.1; stops = h.1 })), n.0, n.1)

  pub broken-exactly : (number place : ℕ) → (((load_of text t).verdict ≡ refused number place) × (6 ≤ number) × (number ≤ 15)) ↔ (Fits × Breaks text number place)
  unfolding RightRead
  broken-exactly number place = (λ h. let l = h.1 in let f = from-three number place (omega arith) h.0 in (f.0, by h.1 h.2 f.1), λ h. (given (refused number place) h.0 (inr (inl h.1)), h.1.1.least, h.1.1.most))
    where
      by : 6 ≤ number → number ≤ 15 → RightRead text (refused number place) → Breaks text number place
      by l m (inl u) = absurd (omega (arith, u.most))
      by l m (inr (inl b)) = b
      by l m (inr (inr b)) = absurd (omega (arith, b.is_sixteen))

  pub missed_exactly : (place : ℕ) → ((load_of text t).verdict ≡ refused 16 place) ↔ (Fits × Misses text 16 place)
  unfolding RightRead
  missed_exactly place = (λ e. let f = from-three 16 place (omega arith) e in (f.0, by f.1), λ h. given (refused 16 place) h.0 (inr (inr h.1)))
    where
      by : RightRead text (refused 16 place) → Misses text 16 place
      by (inl u) = absurd (omega (arith, u.most))
      by (inr (inl b)) = absurd (omega (arith, b.1.most))
      by (inr (inr b)) = b
