-- WHAT LOADING ACCEPTS, THE TEST OF REFUSAL 20 FINDS SOUND: tables that a text was accepted into can be opened.
-- Assumes nothing.
use Prim.Native.Nat.{ℕ, zero, suc, ◌≤◌, ◌<◌}
use native.Mathlib.Omega.{arith}
use mathlib.Core.Path.{◌≡◌, refl, sym, ◌∙◌, subst, ap}
use mathlib.Core.Bool.{Bool, true, false, ◌&&◌, not, false≢true}
use mathlib.Core.List.{List, ◌++◌}
use lib.Dec.{leb, ltb}
use lib.ListN.{length, drop, replicate, length-replicate, length-append}
use borrow.Author.Tests.{eq-eqb, le-leb, leb-true, leb-false, ltb-false}
use Rattle.syntax.specs.Step.{Step}
use Rattle.syntax.specs.Text.{Progress}
use Rattle.syntax.proofs.Folded.{reading-folds}
use Rattle.tables.specs.Every.{every, first_of, zeros, zeros_front}
use Rattle.tables.specs.Tables.{count_of}
use Rattle.tables.specs.Rules.{covered}
use Rattle.tables.specs.Sound as S
use Rattle.tables.specs.View.{Tables, sound}
use Rattle.tables.proofs.Laws.{every-at, first-last, first-le}
use Rattle.tables.proofs.Growth.{so_far-none, so_far-sound}
use Rattle.std.specs.Prelude.{Option, Some as Broken, None, Ok, Err}
use Rattle.rules.specs.declared.fault.Fault.{Fault}
use Rattle.rules.specs.Fault.{is_fault}
use Rattle.rules.specs.State.{State}
use Rattle.rules.proofs.FaultLaws.{is-none}
use Rattle.rules.proofs.Growing.{Growing}
use Rattle.rules.proofs.NeedLaws.{register-needs, variable-needs}
use Rattle.rules.proofs.PastLaws.{p-count, r-count, v_count, so_far-past, covers-past}
use Rattle.loader.specs.Judge.{judge}
use Rattle.loader.specs.Load.{beginning, judged, first_uncovered, judged_as, once_read, verdict_of, is_accepted, left_by, laid_over, is_short, is_long, load_of}
use Rattle.loader.proofs.ReadGrowing.{Reached, reached-reading, went, Some, some-reading}

-- ---- at the start, nothing is declared
zeros-all : (n : ℕ) → zeros (replicate n 0) 0 n ≡ true
unfolding zeros_front
zeros-all zero = refl
zeros-all (suc n) = zeros-all n

at_least : {n m : ℕ} → n ≡ m → m ≤ n
at_least e = omega arith

start : Growing 0 0 0 beginning
unfolding beginning
start =
    record {
      so_far = so_far-none (replicate 577 0) (replicate 961 0) (replicate 7553 0) (zeros-all 577) (zeros-all 961) (zeros-all 7553);
      parameters-long = at_least (length-replicate {A = ℕ} 577 0);
      registers-long = at_least (length-replicate {A = ℕ} 961 0);
      variables-long = at_least (length-replicate {A = ℕ} 7553 0);
      parameters-counted = refl;
      registers-counted = refl;
      variables-counted = refl;
    }

-- ---- what it is to be accepted
pub record Accepting (p : Progress State) : Type 0 where
  pub reads : went p.step ≡ 1
  pub faultless : is_fault p.made.fault ≡ false
  pub covering : ltb (first_uncovered p.made.registers p.made.variables) (count_of p.made.registers) ≡ false

pub accepting : (p : Progress State) → is_accepted (verdict_of p) ≡ true → Accepting p
unfolding verdict_of once_read judged_as is_accepted
accepting p h = go p.step refl p.made.fault refl (ltb (first_uncovered p.made.registers p.made.variables) (count_of p.made.registers)) refl
  where
    go : (s : Step) → p.step ≡ s → (fault : Option Fault) → p.made.fault ≡ fault
        → (c : Bool) → ltb (first_uncovered p.made.registers p.made.variables) (count_of p.made.registers) ≡ c → Accepting p
    go (Err stop) e b f c g = absurd (false≢true (sym (rw e) ∙ h))
    go (Ok next) e (Broken x) f c g = absurd (false≢true (sym (rw (e, f)) ∙ h))
    go (Ok next) e None f true g = absurd (false≢true (sym (rw (e, f, g)) ∙ h))
    go (Ok next) e None f false g = record { reads = rw e; faultless = ap is_fault f; covering = g }

-- ---- tables that grew without a fault, with every dot mapped, are sound, whatever lies past their sizes
module _ (p : Progress State) (reached : Reached p) (some : Some p) (a : Accepting p) where
  abbrev ps : List ℕ
  ps = p.made.parameters

  abbrev rs : List ℕ
  rs = p.made.registers

  abbrev vs : List ℕ
  vs = p.made.variables

  grown : Growing p.parameters p.registers p.variables p.made
  grown = reached.grown (is-none p.made.fault a.faultless)

  few-parameters : count_of ps ≤ 16
  few-parameters = omega (arith, grown.parameters-counted, reached.few-parameters)

  few-registers : count_of rs ≤ 64
  few-registers = omega (arith, grown.registers-counted, reached.few-registers)

  few-variables : count_of vs ≤ 128
  few-variables = omega (arith, grown.variables-counted, reached.few-variables)

  -- a register is there: one was declared, or a variable, which needs one
  some-register : 1 ≤ count_of rs
  some-register = go (leb 1 (count_of rs)) refl
    where
      go : (b : Bool) → leb 1 (count_of rs) ≡ b → 1 ≤ count_of rs
      go true e = leb-true 1 (count_of rs) e
      go false e =
          let none = leb-false 1 (count_of rs) e in
          let declared : 0 < count_of vs = omega (arith, some, a.reads, grown.registers-counted, grown.variables-counted) in
          variable-needs rs vs 0 (every-at (count_of vs) (S.variable_good rs vs) grown.so_far.variables 0 declared)

  some-parameter : 1 ≤ count_of ps
  some-parameter = register-needs ps rs 0 (every-at (count_of rs) (S.register_good ps rs) grown.so_far.registers 0 (let l = some-register in omega arith))

  -- rule 16: no register is uncovered
  covers : every (count_of rs) (λ i. covered rs vs (count_of vs) 0 i && covered rs vs (count_of vs) 1 i) ≡ true
  unfolding first_uncovered
  covers =
      let n = count_of rs in
      let last : first_of n (λ i. not (covered rs vs (count_of vs) 0 i && covered rs vs (count_of vs) 1 i)) ≡ n =
      omega (arith, ltb-false _ n a.covering, first-le n (λ i. not (covered rs vs (count_of vs) 0 i && covered rs vs (count_of vs) 1 i))) in
      sym (first-last n (λ i. covered rs vs (count_of vs) 0 i && covered rs vs (count_of vs) 1 i)) ∙ eq-eqb _ n last

  module _ (x y z : List ℕ) where
    fits : S.tables_fit (ps ++ x) (rs ++ y) (vs ++ z) ≡ true
    unfolding S.tables_fit
    fits =
        let so = grown.so_far in
        let long = grown.parameters-long in
        let long-r = grown.registers-long in
        let long-v = grown.variables-long in
        let e = p-count ps rs vs x y z so long long-r long-v few-parameters few-registers few-variables in
        let f = r-count ps rs vs x y z so long long-r long-v few-parameters few-registers few-variables in
        let g = v_count ps rs vs x y z so long long-r long-v few-parameters few-registers few-variables in
        rw (
          le-leb 577 (length (ps ++ x)) (omega (arith, length-append ps x)),
          le-leb 961 (length (rs ++ y)) (omega (arith, length-append rs y)),
          le-leb 7553 (length (vs ++ z)) (omega (arith, length-append vs z)),
          ← e,
          ← f,
          ← g,
          le-leb 1 (count_of ps) some-parameter,
          le-leb (count_of ps) 16 few-parameters,
          le-leb 1 (count_of rs) some-register,
          le-leb (count_of rs) 64 few-registers,
          le-leb (count_of vs) 128 few-variables,
        )

    sound-past : S.sound (ps ++ x) (rs ++ y) (vs ++ z) ≡ true
    sound-past =
        let so = grown.so_far in
        so_far-sound (ps ++ x) (rs ++ y) (vs ++ z) fits
        (so_far-past ps rs vs x y z so grown.parameters-long grown.registers-long grown.variables-long few-parameters few-registers few-variables)
        (covers-past ps rs vs x y z so grown.parameters-long grown.registers-long grown.variables-long few-parameters few-registers few-variables covers)

-- ---- the claim
module _ (text : List ℕ) where
  pub reached-judged : Reached (judged text)
  unfolding judged
  reached-judged = subst Reached (reading-folds (judge text) text beginning) (reached-reading text beginning start)

  some-judged : Some (judged text)
  unfolding judged
  some-judged = subst Some (reading-folds (judge text) text beginning) (some-reading text beginning)

  judged-sound : (t : Tables) → is_accepted (verdict_of (judged text)) ≡ true → sound (laid_over (left_by (judged text)) t) ≡ true
  unfolding laid_over left_by sound
  judged-sound t h =
      rw h (sound-past (judged text) reached-judged some-judged (accepting (judged text) h) (drop 577 t.parameters) (drop 961 t.registers) (drop 7553 t.variables))

  pub accepted-sound : (t : Tables) → is_accepted (load_of text t).verdict ≡ true → sound (load_of text t).tables ≡ true
  unfolding load_of is_accepted
  accepted-sound t h = go (is_short t) refl (is_long text) refl
    where
      go : (a : Bool) → is_short t ≡ a → (b : Bool) → is_long text ≡ b → sound (load_of text t).tables ≡ true
      go true e b f = absurd (false≢true (sym (rw e) ∙ h))
      go false e true f = absurd (false≢true (sym (rw (e, f)) ∙ h))
      go false e false f = rw (e, f) (judged-sound t (sym (rw (e, f)) ∙ h))
