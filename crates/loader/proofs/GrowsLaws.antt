-- Declarations that keep the rules, one after the other: each table grows by as many entries as are declared for it.
-- Assumes nothing.
use Prim.Native.Nat.{ℕ, ◌+◌}
use native.Mathlib.Omega.{arith}
use mathlib.Core.Path.{◌≡◌, refl, sym, ap, ◌∙◌}
use mathlib.Core.Bool.{Bool, true, false, false≢true}
use mathlib.Core.List.{List, [], ◌∷◌, foldl}
use Rattle.std.specs.Prelude.{None}
use Rattle.syntax.specs.Text.{Declaration, a_device, a_parameter, a_register, a_variable}
use Rattle.rules.specs.Fault.{is_fault}
use Rattle.rules.specs.State.{State}
use Rattle.rules.specs.Parameter.{judge_device}
use Rattle.rules.proofs.FaultLaws.{is-none}
use Rattle.loader.specs.Judge.{judge}
use Rattle.loader.specs.Claim.{tally, one_parameter, one_register, one_variable}
use Rattle.loader.proofs.Breaking.{stays}
use Rattle.loader.proofs.Tallied.{Entire, EachEntire}
use Rattle.loader.proofs.MoreLaws.{more-none, more-then}
use Rattle.loader.proofs.Entries.{Roomy, Grows, parameter-grows, register-grows, variable-grows}

grows_none : (s : State) → Grows 0 0 0 s s
grows_none s = record { parameters = more-none 36 s.parameters; registers = more-none 15 s.registers; variables = more-none 59 s.variables }

-- ---- room for all is room for the first, and then for the rest
module _ {p r v : ℕ} (s : State) where
  pub room-first : (p' r' v' : ℕ) → Roomy (p + p') (r + r') (v + v') s → Roomy p r v s
  room-first p' r' v' m =
      record {
        parameters-long = m.parameters-long;
        registers-long = m.registers-long;
        variables-long = m.variables-long;
        parameters-room = omega (arith, m.parameters-room);
        registers-room = omega (arith, m.registers-room);
        variables-room = omega (arith, m.variables-room);
      }

  pub room_after : (t : State) (p' r' v' : ℕ) → Roomy (p + p') (r + r') (v + v') s → Grows p r v s t → Roomy p' r' v' t
  room_after t p' r' v' m g =
      record {
        parameters-long = g.parameters.long ∙ m.parameters-long;
        registers-long = g.registers.long ∙ m.registers-long;
        variables-long = g.variables.long ∙ m.variables-long;
        parameters-room = omega (arith, m.parameters-room, g.parameters.count);
        registers-room = omega (arith, m.registers-room, g.registers.count);
        variables-room = omega (arith, m.variables-room, g.variables.count);
      }

  grows_then : (t u : State) (p' r' v' : ℕ) → Grows p r v s t → Grows p' r' v' t u → Grows (p + p') (r + r') (v + v') s u
  grows_then t u p' r' v' f g =
      record {
        parameters = more-then 36 p p' _ _ _ f.parameters g.parameters;
        registers = more-then 15 r r' _ _ _ f.registers g.registers;
        variables = more-then 59 v v' _ _ _ f.variables g.variables;
      }

module _ (text : List ℕ) where
  pub grows_one : (s : State) (d : Declaration) → Entire d → Roomy (one_parameter d) (one_register d) (one_variable d) s → (judge text s d).fault ≡ None
      → Grows (one_parameter d) (one_register d) (one_variable d) s (judge text s d)
  unfolding Entire one_parameter one_register one_variable judge judge_device
  grows_one s (a_device d) e m k =
      record { parameters = more-none 36 s.parameters; registers = more-none 15 s.registers; variables = more-none 59 s.variables }
  grows_one s (a_parameter d) e m k = parameter-grows text s d e m k
  grows_one s (a_register d) e m k = register-grows text s d m k
  grows_one s (a_variable d) e m k = variable-grows text s d e m k

  -- a list without a fault at its end has none at its first
  pub unbroken : (s : State) (ds : List Declaration) → is_fault (foldl (judge text) s ds).fault ≡ false → is_fault s.fault ≡ false
  unbroken s ds h = go (is_fault s.fault) refl
    where
      go : (b : Bool) → is_fault s.fault ≡ b → is_fault s.fault ≡ false
      go false e = e
      go true e = absurd (false≢true (sym h ∙ ap is_fault (stays text ds s e) ∙ e))

  pub grows_all : (ds : List Declaration) (s : State) → EachEntire ds → Roomy (tally one_parameter ds) (tally one_register ds) (tally one_variable ds) s
      → is_fault (foldl (judge text) s ds).fault ≡ false → Grows (tally one_parameter ds) (tally one_register ds) (tally one_variable ds) s (foldl (judge text) s ds)
  unfolding EachEntire tally
  grows_all [] s e m k = grows_none s
  grows_all (d ∷ ds) s e m k =
      let one = judge text s d in
      let front = room-first s (tally one_parameter ds) (tally one_register ds) (tally one_variable ds) m in
      let g = grows_one s d e.0 front (is-none one.fault (unbroken one ds k)) in
      let rest = grows_all ds one e.1 (room_after s one (tally one_parameter ds) (tally one_register ds) (tally one_variable ds) m g) k in
      grows_then s one (foldl (judge text) one ds) (tally one_parameter ds) (tally one_register ds) (tally one_variable ds) g rest
