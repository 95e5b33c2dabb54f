-- Judging in order names the first declaration that breaks a rule: a fault, once there, stays.
-- Assumes nothing.
use Prim.Native.Nat.{ℕ}
use mathlib.Core.Path.{◌≡◌, refl, sym, ap, ◌∙◌, subst}
use mathlib.Core.Bool.{Bool, true, false, false≢true}
use mathlib.Core.List.{List, [], ◌∷◌, ◌++◌, foldl, foldl-append, append_assoc, append-nil}
use Rattle.std.specs.Prelude.{Option, Some, None}
use Rattle.syntax.specs.Text.{Declaration, a_device, a_parameter, a_register, a_variable}
use Rattle.rules.specs.declared.fault.Fault.{Fault}
use Rattle.rules.specs.Fault.{is_fault}
use Rattle.rules.specs.State.{State, unless_stopped}
use Rattle.rules.specs.Parameter.{judge_device}
use Rattle.rules.proofs.FaultLaws.{is-none}
use Rattle.loader.specs.Judge.{judge}
use Rattle.loader.specs.Load.{beginning}
use Rattle.loader.specs.Claim.{standing, broken_by, AllKeep, FirstBroken}
use Rattle.loader.proofs.Numbers.{standing-number}

some-none : {x : Fault} → Some x ≡ None → ⊥
some-none e = cc

stopped-stays : (s next : State) → is_fault s.fault ≡ true → (unless_stopped s next).fault ≡ s.fault
unfolding unless_stopped
stopped-stays s next e = rw e

module _ (text : List ℕ) where
  judge-stays : (s : State) (d : Declaration) → is_fault s.fault ≡ true → (judge text s d).fault ≡ s.fault
  unfolding judge judge_device
  judge-stays s (a_device d) e = refl
  judge-stays s (a_parameter d) e = stopped-stays s _ e
  judge-stays s (a_register d) e = stopped-stays s _ e
  judge-stays s (a_variable d) e = stopped-stays s _ e

  pub stays : (ds : List Declaration) (s : State) → is_fault s.fault ≡ true → (foldl (judge text) s ds).fault ≡ s.fault
  stays [] s e = refl
  stays (d ∷ ds) s e = let h = judge-stays s d e in stays ds (judge text s d) (ap is_fault h ∙ e) ∙ h

  -- what stands after a list, from any split of it
  pub standing-split : (before after : List Declaration) (d : Declaration)
      → standing text (before ++ d ∷ after) ≡ foldl (judge text) (judge text (standing text before) d) after
  unfolding standing
  standing-split before after d = foldl-append (judge text) beginning before (d ∷ after)

  standing-last : (before : List Declaration) (d : Declaration) → standing text (before ++ d ∷ []) ≡ judge text (standing text before) d
  standing-last before d = standing-split before [] d

  -- the fault of one declaration is that of all, where those before it were not at fault
  broken-is : (before after : List Declaration) (d : Declaration) → is_fault (broken_by text before d) ≡ true
      → (standing text (before ++ d ∷ after)).fault ≡ broken_by text before d
  unfolding broken_by
  broken-is before after d e = ap (λ (s : State). s.fault) (standing-split before after d) ∙ stays after (judge text (standing text before) d) e

  -- no fault at the end: none on the way
  pub all_keep : (ds : List Declaration) → is_fault (standing text ds).fault ≡ false → AllKeep text ds
  unfolding AllKeep
  all_keep ds none before after d e = go (is_fault (broken_by text before d)) refl
    where
      go : (b : Bool) → is_fault (broken_by text before d) ≡ b → broken_by text before d ≡ None
      go false h = is-none (broken_by text before d) h
      go true h =
          let same = ap (λ (x : List Declaration). is_fault (standing text x).fault) e ∙ ap is_fault (broken-is before after d h) in
          absurd (false≢true (sym none ∙ same ∙ h))

  -- a fault at the end: a first declaration has it
  find : (ds before : List Declaration) (x : Fault) → is_fault (standing text before).fault ≡ false → (standing text (before ++ ds)).fault ≡ Some x
      → FirstBroken text (before ++ ds) x.number x.place
  unfolding broken_by
  find [] before x none some = absurd (false≢true (sym none ∙ ap (λ (l : List Declaration). is_fault (standing text l).fault) (sym (append-nil before)) ∙ ap is_fault some))
  find (d ∷ ds) before x none some = go (is_fault (broken_by text before d)) refl (find ds (before ++ d ∷ []) x)
    where
      all : List Declaration
      all = before ++ d ∷ ds

      go : (b : Bool) → is_fault (broken_by text before d) ≡ b
          → (is_fault (standing text (before ++ d ∷ [])).fault ≡ false → (standing text ((before ++ d ∷ []) ++ ds)).fault ≡ Some x
          → FirstBroken text ((before ++ d ∷ []) ++ ds) x.number x.place)
          → FirstBroken text all x.number x.place
      go true h rest =
          record {
            before = before;
            it = d;
            after = ds;
            splits = refl;
            before-keep = all_keep before none;
            least = (standing-number text all x some).0;
            most = (standing-number text all x some).1;
            breaks = sym (broken-is before ds d h) ∙ some;
          }
      go false h rest =
          let joined : (before ++ d ∷ []) ++ ds ≡ all = append_assoc before (d ∷ []) ds in
          let none' : is_fault (standing text (before ++ d ∷ [])).fault ≡ false = ap (λ (s : State). is_fault s.fault) (standing-last before d) ∙ h in
          subst (λ (l : List Declaration). FirstBroken text l x.number x.place) joined
          (rest none' (ap (λ (l : List Declaration). (standing text l).fault) joined ∙ some))

  pub first-broken : (ds : List Declaration) (x : Fault) → (standing text ds).fault ≡ Some x → FirstBroken text ds x.number x.place
  unfolding standing beginning
  first-broken ds x some = find ds [] x refl some

  -- the two ways round
  pub broken-fault : (ds : List Declaration) (number place : ℕ) → FirstBroken text ds number place → (standing text ds).fault ≡ Some (record { number = number; place = place })
  broken-fault ds number place b =
      ap (λ (l : List Declaration). (standing text l).fault) b.splits ∙ broken-is b.before b.after b.it (ap is_fault b.breaks) ∙ b.breaks

  pub keep-faultless : (ds : List Declaration) → AllKeep text ds → (standing text ds).fault ≡ None
  unfolding AllKeep
  keep-faultless ds keep = go (standing text ds).fault refl
    where
      go : (f : Option Fault) → (standing text ds).fault ≡ f → (standing text ds).fault ≡ None
      go None e = e
      go (Some x) e = let b = first-broken ds x e in absurd (some-none (sym b.breaks ∙ keep b.before b.after b.it b.splits))
