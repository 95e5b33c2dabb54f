-- Rows of the table: how one is computed, and how a table is proved in parts.
-- Assumes nothing.
use Prim.Native.Nat.{ℕ}
use mathlib.Core.Path.{◌≡◌, refl, sym, ap, ap₂, ◌∙◌}
use mathlib.Core.Bool.{Bool, true, false}
use mathlib.Core.List.{List, [], ◌∷◌, ◌++◌, map, map-append}
use lib.ListN.{take, drop, take-append-drop}
use Rattle.tables.specs.View.{Tables, sound}
use Rattle.loader.specs.Verdict.{Verdict}
use Rattle.loader.specs.Load.{Loaded, load_of, is_accepted}
use Rattle.loader.proofs.Accepted.{accepted-sound}
use Rattle.station.specs.declared.Answer.{Answer}
use Rattle.board.specs.Board.{World, Call, step, after, opened}
use Rattle.board.proofs.Passed.{passed, after-passed, opened-passed}
use Rattle.marked.specs.Marked.{Case, blank, lent, answers_to, outcome_of, stated_by}

-- ── with the test passed ──

answers-passed : (t : Tables) → sound t ≡ true → (calls : List Call) (w : World) → answers_to sound t calls w ≡ answers_to passed t calls w
unfolding answers_to after
answers-passed t ok [] w = refl
answers-passed t ok (call ∷ calls) w =
    let next : step sound t call w ≡ step passed t call w = after-passed t ok (call ∷ []) w in
    ap (λ (l : List Answer). (step sound t call w).answer ∷ l) (answers-passed t ok calls (step sound t call w))
    ∙ ap (λ (u : World). u.answer ∷ answers_to passed t calls u) next

-- the answers to a case's calls over tables that loading left: what it accepts is sound, so refusal 20's test need not
-- be computed there
abbrev answers_if : Bool → Tables → Case → List Answer
answers_if true t c = answers_to passed t c.calls (opened passed t c.power lent)
answers_if false t c = answers_to sound t c.calls (opened sound t c.power lent)

abbrev computed : Case → Verdict × List Answer
computed c =
    let l : Loaded = load_of c.text blank in
    (l.verdict, answers_if (is_accepted l.verdict) l.tables c)

answers_if_lem : (c : Case) (t : Tables) (b : Bool) → (b ≡ true → sound t ≡ true) → answers_to sound t c.calls (opened sound t c.power lent) ≡ answers_if b t c
answers_if_lem c t true ok =
    answers-passed t (ok refl) c.calls (opened sound t c.power lent) ∙ ap (answers_to passed t c.calls) (opened-passed t (ok refl) c.power lent)
answers_if_lem c t false ok = refl

pub one-computed : (c : Case) → outcome_of c ≡ computed c
one-computed c =
    let l : Loaded = load_of c.text blank in
    ap {B = Verdict × List Answer} (λ (a : List Answer). (l.verdict, a)) (answers_if_lem c l.tables (is_accepted l.verdict) (accepted-sound c.text blank))

pub all-computed : (cs : List Case) → map outcome_of cs ≡ map computed cs
all-computed [] = refl
all-computed (c ∷ cs) =
    ap₂ {C = List (Verdict × List Answer)} (λ (o : Verdict × List Answer) (l : List (Verdict × List Answer)). o ∷ l) (one-computed c) (all-computed cs)

-- ── in parts ──

abbrev pub AsStated : List Case → Type 0
AsStated cs = map outcome_of cs ≡ map stated_by cs

-- the first n cases, and then the others
pub in_parts : (n : ℕ) (cs : List Case) → AsStated (take n cs) → AsStated (drop n cs) → AsStated cs
in_parts n cs first others =
    let both : AsStated (take n cs ++ drop n cs) =
    map-append outcome_of (take n cs) (drop n cs)
    ∙ ap₂ {C = List (Verdict × List Answer)} (λ (a b : List (Verdict × List Answer)). a ++ b) first others
    ∙ sym (map-append stated_by (take n cs) (drop n cs)) in
    ap (map outcome_of) (sym (take-append-drop n cs)) ∙ both ∙ ap (map stated_by) (take-append-drop n cs)
