-- WHAT IS ACCEPTED IS DESCRIBED: the tables that a text is accepted into hold the entry of each declaration, in order,
-- and zeros behind them. Assumes nothing.
use Prim.Native.Nat.{ℕ, ◌+◌}
use native.Mathlib.Omega.{arith}
use mathlib.Core.Path.{◌≡◌, refl, sym, ap, ◌∙◌, subst}
use mathlib.Core.Bool.{Bool, true, false, false≢true}
use mathlib.Core.List.{List, ◌∷◌, ◌++◌, foldl}
use lib.ListN.{drop, length-replicate}
use Rattle.std.specs.Prelude.{None}
use Rattle.syntax.specs.declared.register.Register.{Register}
use Rattle.syntax.specs.Parameter.{ParameterRead}
use Rattle.syntax.specs.Variable.{VariableRead}
use Rattle.syntax.specs.Text.{Declaration, a_parameter, a_register, a_variable, remade}
use Rattle.tables.specs.View.{Tables}
use Rattle.tables.proofs.Growth.{SoFar}
use Rattle.rules.specs.Fault.{is_fault}
use Rattle.rules.specs.State.{State}
use Rattle.rules.specs.Parameter.{parameter_entry}
use Rattle.rules.specs.Register.{register_entry}
use Rattle.rules.proofs.FaultLaws.{is-none}
use Rattle.loader.specs.Judge.{judge}
use Rattle.loader.specs.Load.{beginning, judged, verdict_of, is_accepted, left_by, laid_over, is_short, is_long, load_of}
use Rattle.loader.specs.Claim.{declared, tally, one_parameter, one_register, one_variable, standing}
use Rattle.loader.specs.Describes.{Holds, variable_entry, Describes}
use Rattle.loader.proofs.Accepted.{accepting, reached-judged}
use Rattle.loader.proofs.Breaking.{standing-split}
use Rattle.loader.proofs.Tallied.{Entire, EachEntire, tally-append, each_at, each-before, each_after, tallied}
use Rattle.loader.proofs.MoreLaws.{held-past, stands, grown-long, count_past, blank-past}
use Rattle.loader.proofs.Entries.{Roomy, Grows, parameter-held, register-held, variable-held}
use Rattle.loader.proofs.GrowsLaws.{room-first, room_after, grows_one, unbroken, grows_all}

-- at the start there is room for all that a text may declare
room-start : (text : List ℕ) → Roomy (tally one_parameter (declared text)) (tally one_register (declared text)) (tally one_variable (declared text)) beginning
unfolding declared beginning
room-start text =
    let t = tallied text in
    record {
      parameters-long = length-replicate {A = ℕ} 577 0;
      registers-long = length-replicate {A = ℕ} 961 0;
      variables-long = length-replicate {A = ℕ} 7553 0;
      parameters-room = omega (arith, t.parameters, t.few-parameters);
      registers-room = omega (arith, t.registers, t.few-registers);
      variables-room = omega (arith, t.variables, t.few-variables);
    }

module _ (text : List ℕ) (faultless : is_fault (standing text (declared text)).fault ≡ false) where
  abbrev all : List Declaration
  all = declared text

  abbrev last : State
  last = standing text all

  each : EachEntire all
  unfolding declared
  each = (tallied text).entire

  grown : Grows (tally one_parameter all) (tally one_register all) (tally one_variable all) beginning last
  unfolding standing
  grown = grows_all text all beginning each (room-start text) faultless

  -- ---- one declaration among them
  module _ (before after : List Declaration) (d : Declaration) (e : all ≡ before ++ d ∷ after) where
    abbrev here : State
    here = standing text before

    abbrev next : State
    next = judge text here d

    last-is : last ≡ foldl (judge text) next after
    last-is = ap (standing text) e ∙ standing-split text before after d

    whole : is_fault (foldl (judge text) next after).fault ≡ false
    whole = ap (λ (s : State). is_fault s.fault) (sym last-is) ∙ faultless

    next-whole : is_fault next.fault ≡ false
    next-whole = unbroken text next after whole

    here-whole : is_fault here.fault ≡ false
    here-whole = unbroken text here (d ∷ after) whole

    parts : EachEntire (before ++ d ∷ after)
    parts = subst EachEntire e each

    room_split : Roomy (tally one_parameter before + tally one_parameter (d ∷ after)) (tally one_register before + tally one_register (d ∷ after)) (tally one_variable before + tally one_variable (d ∷ after)) beginning
    room_split =
        let m = room-start text in
        record {
          parameters-long = m.parameters-long;
          registers-long = m.registers-long;
          variables-long = m.variables-long;
          parameters-room = rw (← tally-append one_parameter before (d ∷ after), ← e) m.parameters-room;
          registers-room = rw (← tally-append one_register before (d ∷ after), ← e) m.registers-room;
          variables-room = rw (← tally-append one_variable before (d ∷ after), ← e) m.variables-room;
        }

    before-grown : Grows (tally one_parameter before) (tally one_register before) (tally one_variable before) beginning here
    unfolding standing
    before-grown =
        grows_all text before beginning (each-before before (d ∷ after) parts)
        (room-first beginning (tally one_parameter (d ∷ after)) (tally one_register (d ∷ after)) (tally one_variable (d ∷ after)) room_split) here-whole

    here-room : Roomy (one_parameter d + tally one_parameter after) (one_register d + tally one_register after) (one_variable d + tally one_variable after) here
    unfolding tally
    here-room = room_after beginning here (tally one_parameter (d ∷ after)) (tally one_register (d ∷ after)) (tally one_variable (d ∷ after)) room_split before-grown

    one-room : Roomy (one_parameter d) (one_register d) (one_variable d) here
    one-room = room-first here (tally one_parameter after) (tally one_register after) (tally one_variable after) here-room

    entire : Entire d
    entire = each_at before after d parts

    kept : next.fault ≡ None
    kept = is-none next.fault next-whole

    one-grown : Grows (one_parameter d) (one_register d) (one_variable d) here next
    one-grown = grows_one text here d entire one-room kept

    rest-grown : Grows (tally one_parameter after) (tally one_register after) (tally one_variable after) next last
    unfolding EachEntire
    rest-grown =
        subst (λ (s : State). Grows (tally one_parameter after) (tally one_register after) (tally one_variable after) next s) (sym last-is)
        (grows_all text after next (each_after before (d ∷ after) parts).1
        (room_after here next (tally one_parameter after) (tally one_register after) (tally one_variable after) here-room one-grown) whole)

  -- ---- the entry of each
  module _ (before after : List Declaration) where
    abbrev now : State
    now = standing text before

    parameter-stands : (d : ParameterRead) → all ≡ before ++ a_parameter d ∷ after → Holds 36 last.parameters (tally one_parameter before) (parameter_entry d)
    unfolding Entire one_parameter one_register one_variable beginning
    parameter-stands d e =
        let it = a_parameter d in
        stands 36 (tally one_parameter after) (tally one_parameter before) _ _ _ (parameter_entry d) (before-grown before after it e).parameters.count
        (one-grown before after it e).parameters (rest-grown before after it e).parameters
        (parameter-held text now d (entire before after it e) (one-room before after it e) (kept before after it e))

    register-stands : (d : Register) → all ≡ before ++ a_register d ∷ after → Holds 15 last.registers (tally one_register before) (register_entry text now.parameters d)
    unfolding one_parameter one_register one_variable beginning
    register-stands d e =
        let it = a_register d in
        stands 15 (tally one_register after) (tally one_register before) _ _ _ (register_entry text now.parameters d) (before-grown before after it e).registers.count
        (one-grown before after it e).registers (rest-grown before after it e).registers (register-held text now d (one-room before after it e) (kept before after it e))

    variable-stands : (d : VariableRead) → all ≡ before ++ a_variable d ∷ after → Holds 59 last.variables (tally one_variable before) (variable_entry text now d)
    unfolding Entire one_parameter one_register one_variable beginning
    variable-stands d e =
        let it = a_variable d in
        stands 59 (tally one_variable after) (tally one_variable before) _ _ _ (variable_entry text now d) (before-grown before after it e).variables.count
        (one-grown before after it e).variables (rest-grown before after it e).variables
        (variable-held text now d (entire before after it e) (one-room before after it e) (kept before after it e))

  -- ---- all of them, whatever lies behind the tables
  so_far : SoFar last.parameters last.registers last.variables
  unfolding judged remade standing declared
  so_far = ((reached-judged text).grown (is-none last.fault faultless)).so_far

  pub describes : (t : Tables) → Describes text (laid_over last t)
  unfolding laid_over beginning one_parameter one_register one_variable
  describes t =
      let ps = last.parameters in
      let rs = last.registers in
      let vs = last.variables in
      let past-ps = drop 577 t.parameters in
      let past-rs = drop 961 t.registers in
      let past-vs = drop 7553 t.variables in
      record {
        parameters-counted = count_past 36 576 _ ps grown.parameters past-ps;
        registers-counted = count_past 15 960 _ rs grown.registers past-rs;
        variables-counted = count_past 59 7552 _ vs grown.variables past-vs;
        parameters = λ before after d e.
            let room = (one-room before after (a_parameter d) e).parameters-room in
            held-past 36 ps past-ps (parameter_entry d) (tally one_parameter before)
            (omega (arith, grown-long 36 576 _ ps grown.parameters, room, (before-grown before after (a_parameter d) e).parameters.count))
            (parameter-stands before after d e);
        registers = λ before after d e.
            let room = (one-room before after (a_register d) e).registers-room in
            held-past 15 rs past-rs (register_entry text (standing text before).parameters d) (tally one_register before)
            (omega (arith, grown-long 15 960 _ rs grown.registers, room, (before-grown before after (a_register d) e).registers.count))
            (register-stands before after d e);
        variables = λ before after d e.
            let room = (one-room before after (a_variable d) e).variables-room in
            held-past 59 vs past-vs (variable_entry text (standing text before) d) (tally one_variable before)
            (omega (arith, grown-long 59 7552 _ vs grown.variables, room, (before-grown before after (a_variable d) e).variables.count))
            (variable-stands before after d e);
        parameters-end = blank-past 36 576 _ ps grown.parameters past-ps so_far.blank-parameters;
        registers-end = blank-past 15 960 _ rs grown.registers past-rs so_far.blank-registers;
        variables-end = blank-past 59 7552 _ vs grown.variables past-vs so_far.blank-variables;
      }

-- ---- the claim
module _ (text : List ℕ) (t : Tables) where
  judged-describes : is_accepted (verdict_of (judged text)) ≡ true → Describes text (laid_over (left_by (judged text)) t)
  unfolding left_by judged remade standing declared
  judged-describes h = rw h (describes text (accepting (judged text) h).faultless t)

  pub accepted-describes : is_accepted (load_of text t).verdict ≡ true → Describes text (load_of text t).tables
  unfolding load_of is_accepted
  accepted-describes h = go (is_short t) refl (is_long text) refl
    where
      go : (a : Bool) → is_short t ≡ a → (b : Bool) → is_long text ≡ b → Describes text (load_of text t).tables
      go true e b f = absurd (false≢true (sym (rw e) ∙ h))
      go false e true f = absurd (false≢true (sym (rw (e, f)) ∙ h))
      go false e false f = rw (e, f) (judged-describes (sym (rw (e, f)) ∙ h))
