-- Whatever loading accepts opens, and demand 3 holds of it.
-- Assumes nothing.
use Prim.Native.Nat.{ℕ, ◌≤◌}
use mathlib.Core.Path.{◌≡◌, sym, ◌∙◌, subst}
use mathlib.Core.Bool.{true}
use mathlib.Core.List.{List}
use lib.ListN.{length}
use borrow.Author.Tests.{le-leb}
use Rattle.tables.specs.View.{Tables, sound, register_count, variable_count}
use Rattle.loader.specs.Verdict.{accepted}
use Rattle.loader.specs.Load.{load_of, is_accepted}
use Rattle.loader.proofs.Accepted.{accepted-sound}
use Rattle.loader.proofs.ByNumber.{accepted-exactly}
use Rattle.loader.proofs.Describing.{accepted-describes}
use Rattle.station.specs.Calls.{unless, is_long}
use Rattle.board.proofs.Demand3.{demand-3}
use Rattle.marked.specs.FromText.{Serves}

serves : (t : Tables) (r v : ℕ) → sound t ≡ true → register_count t ≡ r → variable_count t ≡ v → Serves t r v
unfolding unless is_long
serves t r v ok r-is v-is =
    record {
      opens = λ power lent enough kept marks.
          rw (
            ok,
            le-leb _ _ (subst (λ (n : ℕ). n ≤ length power) (sym r-is) enough),
            le-leb _ _ (subst (λ (n : ℕ). n ≤ length lent.kept) (sym r-is) kept),
            le-leb _ _ (subst (λ (n : ℕ). n ≤ length lent.marks) (sym v-is) marks),
          );
      demand = demand-3 t;
    }

pub from-text : (text : List ℕ) (lent : Tables) (p r v : ℕ) → (load_of text lent).verdict ≡ accepted p r v → Serves (load_of text lent).tables r v
unfolding is_accepted register_count variable_count
from-text text lent p r v e =
    let accepts = ((accepted-exactly text lent p r v).0 e).1 in
    let describes = accepted-describes text lent (rw e) in
    serves (load_of text lent).tables r v (accepted-sound text lent (rw e)) (describes.registers-counted ∙ sym accepts.registers-are)
    (describes.variables-counted ∙ sym accepts.variables-are)
