-- Turns of the loops over a text, and the state that judging leaves.
-- Assumes nothing.
use Prim.Native.Nat.{ℕ, zero, suc, ◌+◌, ◌-◌, ◌<◌, ◌≤◌}
use native.Mathlib.Omega.{arith}
use mathlib.Core.Path.{◌≡◌, refl, sym, ap, ◌∙◌}
use mathlib.Core.Bool.{Bool, true, false, cond}
use mathlib.Core.List.{List}
use borrow.Author.Tests.{le-leb, lt-leb}
use Rattle.std.specs.Prelude.{Option, Some}
use Rattle.token.specs.declared.Scanned.{Scanned}
use Rattle.token.specs.Scan.{scan_at}
use Rattle.token.specs.Fair.{place_of}
use Rattle.token.specs.Kind.{kind_of}
use Rattle.syntax.specs.Text.{Progress, begins}
use Rattle.rules.specs.State.{State, state_of}
use Rattle.loader.specs.declared.heading.Loading.{Loading}
use Rattle.loader.specs.Judge.{progress_of}
use Rattle.loader.specs.Load.{judged}
use Rattle.details.specs.Places.{breaks_at, line_start, opening_from}

-- looking back for a newline
pub start-here : (text : List ℕ) (p : ℕ) {b : Bool} → 0 < p → b ≡ breaks_at text (p - 1) → b ≡ true → p - 1 + 1 ≡ line_start text p
unfolding line_start
start-here text zero l e t = absurd (omega arith)
start-here text (suc p) l e t =
    let q : p ≡ suc p - 1 = omega arith in
    let n : suc p - 1 + 1 ≡ suc p = omega arith in
    rw (ap (breaks_at text) q ∙ sym e ∙ t, n)

pub start_back : (text : List ℕ) (p : ℕ) {b : Bool} → 0 < p → b ≡ breaks_at text (p - 1) → b ≡ false → line_start text p ≡ line_start text (p - 1)
unfolding line_start
start_back text zero l e t = absurd (omega arith)
start_back text (suc p) l e t = let q : p ≡ suc p - 1 = omega arith in rw (ap (breaks_at text) q ∙ sym e ∙ t, ← q)

pub start_none : (text : List ℕ) {p : ℕ} → p ≤ 0 → 0 ≡ line_start text p
unfolding line_start
start_none text {p} l = let q : 0 ≡ p = omega arith in ap (line_start text) q

-- the whole text was read and judged
pub state-judged : (text : List ℕ) (all : Loading) (ps rs vs : List ℕ) → progress_of all ps rs vs ≡ judged text → state_of all.judging ps rs vs ≡ (judged text).made
unfolding progress_of
state-judged text all ps rs vs w = ap (λ (p : Progress State). p.made) w

-- looking for the word that opens a declaration, with so many tokens left to look at
module _ (text : List ℕ) (place at : ℕ) where
  pub opening-none : (room : ℕ) {last : Option ℕ} → room ≤ 0 → last ≡ opening_from text place room at last
  unfolding opening_from
  opening-none zero l = refl
  opening-none (suc room) l = absurd (omega arith)

  module _ {start : ℕ} {found : Scanned} (f : found ≡ scan_at text at) (s : start ≡ place_of found.token) where
    token-at : place_of (scan_at text at).token ≡ start
    token-at = sym (s ∙ ap (λ (x : Scanned). place_of x.token) f)

    pub opening-here : (room : ℕ) {last : Option ℕ} → 0 < room → place ≤ start → last ≡ opening_from text place room at last
    unfolding opening_from
    opening-here zero l h = absurd (omega arith)
    opening-here (suc room) l h = sym (rw (token-at, le-leb place start h))

    pub opening_on :
        (room rest : ℕ) (last : Option ℕ) {kind : ℕ} {opens : Bool} → room ≡ suc rest → start < place → kind ≡ kind_of found.token → opens ≡ begins kind
        → opening_from text place room at last ≡ opening_from text place rest found.next (cond opens (Some start) last)
    unfolding opening_from
    opening_on room rest last {kind} {opens} r h k o =
        let q : begins (kind_of (scan_at text at).token) ≡ opens = sym (o ∙ ap begins (k ∙ ap (λ (x : Scanned). kind_of x.token) f)) in
        rw (r, opening_from, token-at, lt-leb place start h, q, ← f)
