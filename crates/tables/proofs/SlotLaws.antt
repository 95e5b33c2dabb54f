-- Rule 10 by slots: where no register before has a register's slot, none serves its place, so none clashes with it.
use Prim.Native.Nat.{ℕ, ◌+◌, ◌*◌, ◌%◌}
use native.Mathlib.Omega.{arith}
use native.Mathlib.Nat.{mod-lt}
use mathlib.Core.Path.{◌≡◌, refl, sym, ap, ap₂, ◌∙◌}
use mathlib.Core.Bool.{Bool, true, false, ◌&&◌, ◌||◌, not, and-false, false≢true}
use mathlib.Core.List.{List, [], ◌∷◌}
use lib.ListN.{get_or, set}
use lib.Dec.{eqb}
use borrow.Author.Tests.{eq-eqb, eqb-true, not-true}
use Rattle.tables.specs.Every.{some}
use Rattle.tables.specs.Marks.{has, marks}
use Rattle.tables.specs.Tables.{RegisterPart, register_part_of}
use Rattle.tables.specs.Rules.{clashes, place_taken, register_fault, serves, told_apart}
use Rattle.tables.specs.Scan.{fault_by, slot_map, place_slot}
use Rattle.tables.proofs.Laws.{some-none-at, some-nowhere}
use Rattle.tables.proofs.MapLaws.{map_more, map-seen}
use Rattle.logic.proofs.Tests.{and_left, and_right, or_left}

-- a part that serves the place has its slot
other-slot : (a b : RegisterPart) → eqb (place_slot b) (place_slot a) ≡ false → serves a b.parameter b.offset ≡ false
other-slot a b h = go (serves a b.parameter b.offset) refl
  where
    go : (s : Bool) → serves a b.parameter b.offset ≡ s → s ≡ false
    go true e =
        let front = a.present && eqb a.parameter b.parameter in
        let o : a.offset ≡ b.offset = eqb-true _ _ (and_right front (eqb a.offset b.offset) e) in
        let p : a.parameter ≡ b.parameter = eqb-true _ _ (and_right a.present (eqb a.parameter b.parameter) (and_left front (eqb a.offset b.offset) e)) in
        absurd (false≢true (sym h ∙ eq-eqb _ _ (sym (ap₂ (λ (x y : ℕ). (16 * x + y) % 256) p o))))
    go false e = refl

-- the slot of register i's part is new: its place is not taken
pub slot-new : (rs : List ℕ) (p i : ℕ) {map : List ℕ} {at : ℕ} {b : Bool} → map ≡ slot_map rs p i → at ≡ place_slot (register_part_of rs p i)
    → b ≡ eqb (get_or map at 0) 0 → b ≡ true → false ≡ place_taken rs p i
unfolding place_taken has
slot-new rs p i m s e t =
    let here = register_part_of rs p i in
    let slots : ℕ → List ℕ = λ j. place_slot (register_part_of rs p j) ∷ [] in
    let seen : eqb (get_or (slot_map rs p i) (place_slot here) 0) 0 ≡ true = sym (e ∙ ap₂ (λ (w : List ℕ) (k : ℕ). eqb (get_or w k 0) 0) m s) ∙ t in
    let none : some i (λ j. has (place_slot here) (slots j)) ≡ false = not-true _ (sym (map-seen 256 slots i (place_slot here) (mod-lt _ (omega arith))) ∙ seen) in
    let nobody : some i (λ j. clashes p here (register_part_of rs p j)) ≡ false =
    some-nowhere i (λ j. clashes p here (register_part_of rs p j))
    (λ j l. ap (λ (b : Bool). b && not (eqb p 1 && told_apart here (register_part_of rs p j)))
    (other-slot (register_part_of rs p j) here (or_left _ false (some-none-at i (λ k. has (place_slot here) (slots k)) none j l)))) in
    sym (ap (λ (b : Bool). here.present && b) nobody ∙ and-false here.present)

-- the map with a register more
pub slots-more : (rs : List ℕ) (p i : ℕ) {map next : List ℕ} → map ≡ slot_map rs p i → next ≡ set map (place_slot (register_part_of rs p i)) 1
    → next ≡ slot_map rs p (i + 1)
unfolding marks
slots-more rs p i m e = map_more 256 (λ j. place_slot (register_part_of rs p j) ∷ []) i m e

-- a register's lowest broken rule, from what was found of its places
pub fault-told : (ps rs : List ℕ) (i : ℕ) {read write : Bool} {fault : ℕ} → read ≡ place_taken rs 0 i → write ≡ place_taken rs 1 i
    → fault ≡ fault_by ps rs i (read || write) → fault ≡ register_fault ps rs i
unfolding register_fault fault_by
fault-told ps rs i r w f = f ∙ ap₂ (λ (x y : Bool). fault_by ps rs i (x || y)) r w
