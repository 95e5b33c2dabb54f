-- From an opening whose power-on values obey their masks, on tables with one mask for both parts, every cell that can
-- be read obeys its read mask, whatever is called: so no read of such a board is stopped by 52.
-- Assumes nothing.
use Prim.Native.Nat.{ℕ, ◌<◌, ◌^◌}
use mathlib.Core.Path.{◌≡◌, refl, sym, ap, ◌∙◌, subst}
use mathlib.Core.Logic.{◌⊎◌, inl, inr}
use mathlib.Core.Bool.{true, false}
use mathlib.Core.List.{List, [], ◌∷◌}
use mathlib.Core.Option.{Option}
use lib.Dec.{eqb}
use borrow.Author.Tests.{eqb-true, eqb-false}
use Rattle.tables.specs.declared.Part.TheVariants.{Read as reading, Write as writing}
use Rattle.tables.specs.View.{Tables, sound, Consistent, register_count, register_has, variable_count, variable_has, size, is_fixed, is_one, obeys}
use Rattle.bits.proofs.MaskLaws.{same_bits}
use Rattle.station.specs.declared.Operation.{Operation}
use Rattle.station.specs.declared.Operation.TheVariants.{Idle, Reading, Writing}
use Rattle.station.specs.declared.Access.{Access}
use Rattle.station.specs.Calls.{is_allowed, register_taken, steps_of, on_offer}
use Rattle.station.proofs.Registers.{register-inside, register_has_lem}
use Rattle.station.proofs.Underway.{writing-allowed}
use Rattle.board.specs.Board.{put, perform, World, Call, BeginRead, BeginWrite, Confirm, Abandon, Reopen, step, after}
use Rattle.board.specs.Demand.{Opening, power_on, world_after}
use Rattle.board.specs.Obedient.{Obedient}
use Rattle.board.proofs.BoardLaws.{put_same, put_other, byte-taken}
use Rattle.board.proofs.Ledger.{at}
use Rattle.board.proofs.Invariant.{byte_at}
use Rattle.board.proofs.Steps.{InvW, step_keeps, reach-write}
use Rattle.board.proofs.Reopens.{reopen-stays}
use Rattle.board.proofs.ReadBack.{AllObey}
use Rattle.board.proofs.World.{ok, rules, start-holds}
use Rattle.logic.proofs.Tests.{either}

module _ (t : Tables) (power : List ℕ) (q : Obedient t power) where
  -- a byte obeys both masks, or neither
  both_masks : (r byte : ℕ) → r < register_count t → register_has t reading r ≡ true → register_has t writing r ≡ true
      → obeys t reading r byte ≡ obeys t writing r byte
  unfolding obeys is_fixed is_one
  both_masks r byte hr has has' =
      rw (same_bits _ _ (λ b. q.same-fixed r b hr has has'), same_bits _ _ (λ b. q.same-ones r b hr has has'))

  module _ (is-sound : sound t ≡ true) (c : Consistent t) where
    abbrev Holding : World → Type 0
    Holding w = InvW sound t is-sound c (power_on power) w

    perform-obeys : (op : Operation) (w : World) → w.state.operation ≡ op → Holding w → AllObey t w.cells
        → AllObey t (perform t (on_offer t w.state op) w.cells)
    perform-obeys Idle w here i all r hr has = all r hr has
    perform-obeys (Reading v n g) w here i all r hr has = all r hr has
    perform-obeys (Writing v n x) w here i all r hr has = rw (reach-write sound t is-sound c (power_on power) k v n x a.0 a.2) (go (either (eqb r s)))
      where
        k : List ℕ
        k = w.state.kept

        a : (v < variable_count t) × (variable_has t writing v ≡ true) × (n < steps_of t writing v) × (x < 2 ^ size t writing v)
        a = writing-allowed t v n x (ap (is_allowed t) (sym here) ∙ i.1.allowed)

        s : ℕ
        s = register_taken t writing v n

        byte : ℕ
        byte = byte_at t c (power_on power) k v x n

        go : (eqb r s ≡ true) ⊎ (eqb r s ≡ false) → obeys t reading r (put w.cells s byte r) ≡ true
        go (inl e) =
            let same = eqb-true r s e in
            ap (obeys t reading r) (put_same w.cells s byte same)
            ∙ both_masks r byte hr has (ap (register_has t writing) same ∙ register_has_lem t c writing v n a.0 a.2)
            ∙ ap (λ (r : ℕ). obeys t writing r byte) same
            ∙ byte-taken t c (at k) v x s a.0 (register-inside t c writing v n a.0 a.2)
        go (inr apart) = ap (obeys t reading r) (put_other w.cells s byte (eqb-false r s apart)) ∙ all r hr has

    offer-obeys : (w : World) → Holding w → AllObey t w.cells → AllObey t (perform t w.offer w.cells)
    offer-obeys w i all =
        subst (λ (offer : Option Access). AllObey t (perform t offer w.cells)) (sym i.3) (perform-obeys w.state.operation w refl i all)

    step-obeys : (call : Call) (w : World) → Holding w → AllObey t w.cells → AllObey t (step sound t call w).cells
    step-obeys (BeginRead v) w i all = all
    step-obeys (BeginWrite v z) w i all = all
    step-obeys (Confirm any) w i all = offer-obeys w i all
    step-obeys (Abandon true) w i all = offer-obeys w i all
    step-obeys (Abandon false) w i all = all
    step-obeys (Reopen numbers) w i all = rw (reopen-stays sound t w numbers) all

    after-obeys : (calls : List Call) (w : World) → Holding w → AllObey t w.cells → AllObey t (after sound t calls w).cells
    unfolding after
    after-obeys [] w i all = all
    after-obeys (call ∷ calls) w i all =
        after-obeys calls (step sound t call w) (step_keeps sound t is-sound c (power_on power) call w i) (step-obeys call w i all)

pub cells-obey : {t : Tables} {power : List ℕ} (o : Opening t power) → Obedient t power → (calls : List Call) (r : ℕ) → r < register_count t
    → register_has t reading r ≡ true → obeys t reading r ((world_after o calls).cells r) ≡ true
cells-obey {t} {power} o q calls =
    after-obeys t power q (ok o) (rules o) calls _ (start-holds o) (λ r hr has. q.at-power_on reading r hr has)
