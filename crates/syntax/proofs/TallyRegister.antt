-- The register's readers agree with the count of sizes.
-- Assumes nothing.
use Prim.Native.Nat.{ℕ, suc}
use mathlib.Core.Path.{◌≡◌, refl, sym, subst}
use mathlib.Core.Bool.{Bool, true, false}
use mathlib.Core.List.{List, []}
use mathlib.Core.Option.{Option}
use lib.Dec.{eqb, ltb}
use lib.ListN.{length}
use Rattle.syntax.specs.Step.{Step}
use Rattle.syntax.specs.declared.register.Masks.{Masks}
use Rattle.syntax.specs.declared.reader.Read.{Read}
use Rattle.syntax.specs.Reader.{seen_at, fixed_after, bits_after}
use Rattle.syntax.specs.Register.{mark_after, offset_after, port_after, mask_after, attribute_after, mask_turn, more_masks, second_marked, rest_after, register_after}
use Rattle.syntax.specs.Sizes.{body, register, asks_operand, onward, passes_at, Tally, tallied, too_much}
use Rattle.syntax.proofs.LoopSteps.{loop-keeps}
use Rattle.syntax.proofs.RegisterFollows.{value-is}
use Rattle.syntax.proofs.Tally.{Agrees, Quiet, agrees-tok, agrees-past, agrees-name, or-false}
use Rattle.syntax.proofs.TallyParameter.{agrees-width}
use Rattle.syntax.proofs.TallyExpression.{agrees-expression}

module _ (text : List ℕ) (w : Option ℕ) where
  -- past a token that was looked at and that the count does not mind
  pub quiet-past : (k : ℕ) (c : Tally) → eqb 255 k ≡ false → eqb 1 k ≡ false → Quiet text w c k → (s : Step) → eqb (seen_at text s).kind k ≡ true → Agrees text w c s → Agrees text w c (seen_at text s).past
  quiet-past k c end name q s i a = subst (λ (d : Tally). Agrees text w d (seen_at text s).past) q.1 (agrees-past text w k c end name q.0 s i a)

  -- (read | write)?
  pub agrees-mark : (c : Tally) → Quiet text w c 528 → Quiet text w c 539 → (s : Step) → Agrees text w c s → Agrees text w c (mark_after text s).step
  unfolding mark_after
  agrees-mark c read write s a = by (eqb (seen_at text s).kind 528) refl (eqb (seen_at text s).kind 539) refl
    where
      by : (b : Bool) → eqb (seen_at text s).kind 528 ≡ b → (d : Bool) → eqb (seen_at text s).kind 539 ≡ d → Agrees text w c (mark_after text s).step
      by true i d j = rw i (quiet-past 528 c refl refl read s i a)
      by false i true j = rw (i, j) (quiet-past 539 c refl refl write s j a)
      by false i false j = rw (i, j) a

  module _ (registers variables : ℕ) where
    -- the count in a register, outside of offsets
    abbrev in_register : Tally
    in_register = record { registers = registers; variables = variables; spot = register [] }

    -- (@ expression)?
    agrees-offset : (s : Step) → Agrees text w in_register s → Agrees text w in_register (offset_after text s).step
    unfolding offset_after asks_operand tallied too_much passes_at onward
    agrees-offset s a = by (eqb (seen_at text s).kind 320) refl
      where
        by : (b : Bool) → eqb (seen_at text s).kind 320 ≡ b → Agrees text w in_register (offset_after text s).step
        by true i =
            rw i (subst (λ (t : Step). Agrees text w in_register t) (sym (value-is text (seen_at text s).past))
            (agrees-expression text w registers variables (seen_at text s).past (agrees-past text w 320 in_register refl refl refl s i a)))
        by false i = rw i a

    -- name (@ expression)?
    agrees-port : (mark : ℕ) (s : Step) → Agrees text w in_register s → Agrees text w in_register (port_after text mark s).step
    unfolding port_after asks_operand tallied too_much passes_at onward
    agrees-port mark s a = agrees-offset _ (agrees-name text w in_register refl s a)

    -- mask bits
    agrees-mask : (masks : Masks) (mark : ℕ) (s : Step) → Agrees text w in_register s → Agrees text w in_register (mask_after text masks mark s).step
    unfolding mask_after bits_after asks_operand tallied too_much passes_at onward
    agrees-mask masks mark s a = agrees-tok text w 3 in_register refl refl refl _ (agrees-tok text w 523 in_register refl refl refl s a)

    marked : (s : Step) → Agrees text w in_register s → Agrees text w in_register (mark_after text s).step
    unfolding asks_operand tallied too_much passes_at onward
    marked s a = agrees-mark in_register (refl, refl) (refl, refl) s a

    behind_comma_lem : (s : Step) → eqb (seen_at text s).kind 300 ≡ true → Agrees text w in_register s → Agrees text w in_register (seen_at text s).past
    unfolding asks_operand tallied too_much passes_at onward
    behind_comma_lem s i a = agrees-past text w 300 in_register refl refl refl s i a

    -- (, rw? mask bits)*
    agrees_masks : (room : ℕ) (masks : Masks) (s : Step) → Agrees text w in_register s → Agrees text w in_register (more_masks text room masks s).step
    unfolding more_masks mask_turn attribute_after
    agrees_masks room masks s a =
        loop-keeps text (λ (m : Read Masks). m.step) (λ kind. eqb kind 300) (mask_turn text) (λ m. Agrees text w in_register m.step)
        (λ m i a. agrees-mask m.value _ _ (marked _ (behind_comma_lem m.step i a))) room (record { value = masks; step = s }) a

    -- a second port or a first mask
    agrees-second : (mark : ℕ) (s : Step) → Agrees text w in_register s → Agrees text w in_register (second_marked text mark s).step
    unfolding second_marked
    agrees-second mark s a = by (eqb (seen_at text s).kind 523) refl
      where
        by : (b : Bool) → eqb (seen_at text s).kind 523 ≡ b → Agrees text w in_register (second_marked text mark s).step
        by true i = rw i (agrees-mask _ mark s a)
        by false i = rw i (agrees-port mark s a)

    -- (, (port | mask) (, mask)*)?
    agrees-rest : (s : Step) → Agrees text w in_register s → Agrees text w in_register (rest_after text s).step
    unfolding rest_after
    agrees-rest s a = by (eqb (seen_at text s).kind 300) refl
      where
        by : (b : Bool) → eqb (seen_at text s).kind 300 ≡ b → Agrees text w in_register (rest_after text s).step
        by true i = rw i (agrees_masks (length text) _ _ (agrees-second _ _ (marked _ (behind_comma_lem s i a))))
        by false i = rw i a

    -- name = port rest : width, behind the word
    named-agrees : (s : Step) → Agrees text w in_register (fixed_after text 529 s) → Agrees text w in_register (register_after text s).step
    unfolding register_after asks_operand tallied too_much passes_at onward
    named-agrees s a =
        agrees-width text w in_register (refl, refl) (refl, refl) (refl, refl) (refl, refl) _ (agrees-tok text w 314 in_register refl refl refl _
        (agrees-rest _ (agrees-port _ _ (marked _ (agrees-tok text w 317 in_register refl refl refl _ (agrees-name text w in_register refl _ a))))))

  -- THE REGISTER, from outside of declarations
  pub agrees-register : (r v : ℕ) → ltb 64 (suc r) ≡ false → (s : Step) → Agrees text w (record { registers = r; variables = v; spot = body }) s
      → Agrees text w (record { registers = suc r; variables = v; spot = register [] }) (register_after text s).step
  unfolding tallied too_much passes_at onward
  agrees-register r v fits s a = named-agrees (suc r) v s (agrees-tok text w 529 (record { registers = r; variables = v; spot = body }) refl refl (or-false (ltb 64 (suc r)) fits) s a)
