-- THE ANSWER OF LOADING: it is what specs/Claim.antt says, and nothing else is.
-- Assumes nothing.
use Prim.Native.Nat.{ℕ, ◌≤◌}
use native.Mathlib.Omega.{arith}
use mathlib.Core.Path.{◌≡◌, refl, sym, ap, ◌∙◌, subst}
use mathlib.Core.Bool.{Bool, true, false, not, cond}
use mathlib.Core.Logic.{◌↔◌, inl, inr}
use mathlib.Core.List.{List}
use lib.Dec.{ltb}
use lib.ListN.{get_or}
use borrow.Author.Tests.{ltb-true, ltb-false, lt-ltb, le-ltb, not-true, not-false}
use Rattle.syntax.specs.Step.{Step, refused_at}
use Rattle.syntax.specs.Claim.{Right}
use Rattle.syntax.specs.Text.{Declaration, reading, remade}
use Rattle.syntax.proofs.Answers.{answers-exactly, reads-exactly}
use Rattle.tables.specs.Tables.{count_of, register_at}
use Rattle.tables.specs.View.{Tables}
use Rattle.rules.specs.declared.fault.Fault.{Fault}
use Rattle.rules.specs.Fault.{is_fault}
use Rattle.rules.specs.State.{State}
use Rattle.std.specs.Prelude.{Option, Some, None, Ok, Err}
use Rattle.token.specs.declared.Refusal.{Refusal}
use Rattle.loader.specs.Verdict.{Verdict, accepted, refused}
use Rattle.loader.specs.Load.{Loaded, judged, judged_as, is_accepted, left_by, laid_over, first_uncovered, once_read, verdict_of, is_short, is_long, load_of}
use Rattle.loader.specs.Claim.{declared, tally, one_parameter, one_register, one_variable, Reads, standing, AllKeep, mapped, AllMapped, FirstUnmapped, Unread, RightRead, RightVerdict, Leaves}
use Rattle.loader.proofs.FirstLaws.{first_passes, first-before, first-all, first-only}
use Rattle.loader.proofs.Numbers.{reading-number}
use Rattle.loader.proofs.Breaking.{all_keep, first-broken, broken-fault, keep-faultless}
use Rattle.loader.proofs.Tallied.{tallied}
use Rattle.loader.proofs.Accepted.{reached-judged}

-- ---- rule 16, by the first register that fails
module _ (s : State) where
  abbrev count : ℕ
  count = count_of s.registers

  abbrev first : ℕ
  first = first_uncovered s.registers s.variables

  unmapped-found : ltb first count ≡ true → FirstUnmapped s (get_or s.registers (register_at first) 0)
  unfolding first_uncovered mapped
  unmapped-found h =
      let l = ltb-true first count h in
      record {
        register = first;
        inside = l;
        earlier = λ i m. not-false _ (first-before count (λ k. not (mapped s k)) i m);
        unmapped = not-true _ (first_passes count (λ k. not (mapped s k)) l);
        place_is = refl;
      }

  all-mapped : ltb first count ≡ false → AllMapped s
  unfolding AllMapped first_uncovered mapped
  all-mapped h i l = not-false _ (first-before count (λ k. not (mapped s k)) i (omega (arith, ltb-false first count h)))

  unmapped-first : (place : ℕ) (u : FirstUnmapped s place) → first ≡ u.register
  unfolding first_uncovered mapped
  unmapped-first place u = first-only count u.register (λ k. not (mapped s k)) u.inside (λ k m. ap not (u.earlier k m)) (ap not u.unmapped)

  mapped-last : AllMapped s → ltb first count ≡ false
  unfolding AllMapped first_uncovered mapped
  mapped-last h = let e = first-all count (λ k. not (mapped s k)) (λ k m. ap not (h k m)) in le-ltb first count (omega arith)

module _ (text : List ℕ) where
  abbrev all : List Declaration
  all = declared text

  abbrev last : State
  last = standing text all

  -- ---- the verdict, by its three tests
  abbrev ruled : Option Fault → Bool → Verdict
  ruled (Some x) c = refused x.number x.place
  ruled None c = cond c (refused 16 (get_or last.registers (register_at (first last)) 0)) (accepted (count_of last.parameters) (count_of last.registers) (count_of last.variables))

  by_tests : {step : Step} {c : Bool} (fault : Option Fault) → (reading text).step ≡ step → last.fault ≡ fault → ltb (first last) (count last) ≡ c
      → verdict_of (judged text) ≡ once_read step (ruled fault c)
  unfolding verdict_of judged_as judged remade standing declared
  by_tests (Some x) e f g = rw (e, f)
  by_tests None e f g = rw (e, f, g)

  reads_at : (end : ℕ) → (reading text).step ≡ Ok end → Reads text
  unfolding Right
  reads_at end e = let r = (answers-exactly text (Ok end)).0 e in (r.1, r.2)

  unread : (stop : Refusal) → Right text (Err stop) → Unread text stop.number stop.place
  unread stop r = let n = reading-number text stop.number stop.place r in record { least = n.0; most = n.1; stops = r }

  -- the tables count what the text declares
  record Counts : Type 0 where
    parameters : count_of last.parameters ≡ tally one_parameter all
    registers : count_of last.registers ≡ tally one_register all
    variables : count_of last.variables ≡ tally one_variable all

  counts : last.fault ≡ None → Counts
  unfolding judged remade standing declared
  counts f =
      let g = (reached-judged text).grown f in
      let t = tallied text in
      record { parameters = g.parameters-counted ∙ t.parameters; registers = g.registers-counted ∙ t.registers; variables = g.variables-counted ∙ t.variables }

  keeps : last.fault ≡ None → AllKeep text all
  keeps f = all_keep text all (ap is_fault f)

  -- ---- the verdict is right
  verdict-right : RightRead text (verdict_of (judged text))
  unfolding RightRead once_read
  verdict-right = go (reading text).step refl last.fault refl (ltb (first last) (count last)) refl
    where
      go : (s : Step) → (reading text).step ≡ s → (fault : Option Fault) → last.fault ≡ fault → (c : Bool) → ltb (first last) (count last) ≡ c
          → RightRead text (verdict_of (judged text))
      go (Err stop) e b f c g = subst (RightRead text) (sym (by_tests b e f g)) (inl (unread stop ((answers-exactly text (Err stop)).0 e)))
      go (Ok end) e (Some x) f c g = subst (RightRead text) (sym (by_tests (Some x) e f g)) (inr (inl (reads_at end e, first-broken text all x f)))
      go (Ok end) e None f true g =
          subst (RightRead text) (sym (by_tests None e f g))
          (inr (inr (record { reads = reads_at end e; keeps = keeps f; is_sixteen = refl; misses = unmapped-found last g })))
      go (Ok end) e None f false g =
          let n = counts f in
          subst (RightRead text) (sym (by_tests None e f g))
          (record {
            reads = reads_at end e;
            keeps = keeps f;
            maps = all-mapped last g;
            parameters-are = n.parameters;
            registers-are = n.registers;
            variables-are = n.variables;
          })

  -- ---- and no other is
  only-verdict : (v : Verdict) → RightRead text v → verdict_of (judged text) ≡ v
  unfolding RightRead once_read
  only-verdict (Err x) (inl r) = by_tests last.fault ((answers-exactly text (refused_at x.number x.place)).1 r.stops) refl refl
  only-verdict (Err x) (inr (inl b)) = by_tests (Some (record { number = x.number; place = x.place })) ((reads-exactly text).1 b.0) (broken-fault text all x.number x.place b.1) refl
  only-verdict (Err x) (inr (inr m)) =
      let u = m.misses in
      let e = unmapped-first last x.place u in
      by_tests None ((reads-exactly text).1 m.reads) (keep-faultless text all m.keeps) (lt-ltb (first last) (count last) (omega (arith, u.inside)))
      ∙ rw (e, m.is_sixteen, u.place_is)
  only-verdict (Ok c) a =
      let f = keep-faultless text all a.keeps in
      let n = counts f in
      by_tests None ((reads-exactly text).1 a.reads) f (mapped-last last a.maps)
      ∙ rw (n.parameters, n.registers, n.variables, a.parameters-are, a.registers-are, a.variables-are)

  module _ (t : Tables) where
    -- ---- 1 and 2 come first
    answered : (a b : Bool) → is_short t ≡ a → is_long text ≡ b → (load_of text t).verdict ≡ cond a (refused 1 0) (cond b (refused 2 0) (verdict_of (judged text)))
    unfolding load_of
    answered true b e f = rw e
    answered false true e f = rw (e, f)
    answered false false e f = rw (e, f)

    load-right : RightVerdict text t (load_of text t).verdict
    unfolding RightVerdict
    load-right = go (is_short t) refl (is_long text) refl
      where
        go : (a : Bool) → is_short t ≡ a → (b : Bool) → is_long text ≡ b → RightVerdict text t (load_of text t).verdict
        go true e b f = inl (e, answered true b e f)
        go false e true f = inr (inl (e, f, answered false true e f))
        go false e false f = inr (inr (e, f, subst (RightRead text) (sym (answered false false e f)) verdict-right))

    only-answer : (v : Verdict) → RightVerdict text t v → (load_of text t).verdict ≡ v
    unfolding RightVerdict
    only-answer v (inl (e, z)) = answered true (is_long text) e refl ∙ sym z
    only-answer v (inr (inl (e, f, z))) = answered false true e f ∙ sym z
    only-answer v (inr (inr (e, f, z))) = answered false false e f ∙ only-verdict v z

    -- THE CLAIM: a text is answered by a verdict exactly when that verdict is right.
    pub loads-exactly : (v : Verdict) → ((load_of text t).verdict ≡ v) ↔ RightVerdict text t v
    loads-exactly v = (λ e. subst (RightVerdict text t) e load-right, only-answer v)

    -- NO SECOND VERDICT IS RIGHT.
    pub verdict-once : (v w : Verdict) → RightVerdict text t v → RightVerdict text t w → v ≡ w
    verdict-once v w a b = sym (only-answer v a) ∙ only-answer w b

    -- ---- what is left
    from-three : (number place : ℕ) → RightRead text (refused number place) → 3 ≤ number
    unfolding RightRead
    from-three number place (inl r) = r.least
    from-three number place (inr (inl r)) = omega (arith, r.1.least)
    from-three number place (inr (inr r)) = omega (arith, r.is_sixteen)

    judged-leaves : (v : Verdict) → verdict_of (judged text) ≡ v → RightRead text v → Leaves text t v (laid_over (left_by (judged text)) t)
    unfolding Leaves left_by is_accepted judged remade standing declared
    judged-leaves (Ok counts) e right = rw e
    judged-leaves (Err r) e right = inr (from-three r.number r.place right, rw e)

    loaded-by : (a b : Bool) → is_short t ≡ a → is_long text ≡ b
        → load_of text t
        ≡ cond a (record { verdict = refused 1 0; tables = t })
        (cond b (record { verdict = refused 2 0; tables = t }) (record { verdict = verdict_of (judged text); tables = laid_over (left_by (judged text)) t }))
    unfolding load_of
    loaded-by a b e f = rw (e, f)

    abbrev Left : Loaded → Type 0
    Left l = Leaves text t l.verdict l.tables

    -- WHAT LOADING LEAVES in the tables goes by its verdict.
    pub leaves : Leaves text t (load_of text t).verdict (load_of text t).tables
    unfolding Leaves
    leaves = go (is_short t) refl (is_long text) refl
      where
        go : (a : Bool) → is_short t ≡ a → (b : Bool) → is_long text ≡ b → Leaves text t (load_of text t).verdict (load_of text t).tables
        go true e b f = subst Left (sym (loaded-by true b e f)) (inl (omega arith, refl))
        go false e true f = subst Left (sym (loaded-by false true e f)) (inl (omega arith, refl))
        go false e false f = subst Left (sym (loaded-by false false e f)) (judged-leaves (verdict_of (judged text)) refl verdict-right)
