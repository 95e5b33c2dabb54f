-- A lookup's index fits a word; and a load that keeps the loader's promise, told in words, keeps the promise of the C
-- face. Assumes nothing.
use Prim.Native.Nat.{ℕ, ◌<◌, ◌^◌}
use mathlib.Core.Path.{◌≡◌, ◌∙◌, refl, ap, subst}
use mathlib.Core.Bool.{Bool, true, false}
use mathlib.Core.List.{List}
use native.Mathlib.Omega.{arith}
use lib.Dec.{ltb}
use lib.IntN.{ℤ}
use lib.ListN.{get_or}
use borrow.Author.Tests.{ltb-true}
use mir.Syntax.{w32, w64}
use mir.Val.{Fits, to_z, of_z}
use Rattle.bits.proofs.Signed.{negative-read}
use Rattle.std.proofs.Common.{Option, Some, None}
use Rattle.std.specs.Bool.{then_some}
use Rattle.rules.specs.Names.{held_of, found_below, found_in, variable_named}
use Rattle.loader.specs.Verdict.{Verdict}
use Rattle.loader.specs.Load.{Loaded, loaded, lent_as}
use Rattle.abi.specs.Loading.{ToldVerdict, TellsLoaded, found_word, Narrow}
use Rattle.abi.proofs.WordLaws.{said}

below-narrow : (n i : ℕ) → n < 2 ^ 32 → Narrow (found_below n i)
unfolding found_below
below-narrow n i h = go (ltb i n) refl
  where
    go : (b : Bool) → ltb i n ≡ b → Narrow (then_some b i)
    go true e = omega (arith, ltb-true i n e)
    go false e = tt

pub found-narrow : (text variables name : List ℕ) → Fits w32 (get_or variables 0 0) → Narrow (variable_named text variables name)
unfolding found_in held_of
found-narrow text variables name count = below-narrow _ _ (omega (arith, count.fits))

-- what the machine reads back from its word
pub found-said : (found : Option ℕ) {z : ℤ} → Narrow found → z ≡ found_word found → to_z w64 (of_z w64 z) ≡ found_word found
found-said (Some i) narrow e = said i narrow e
found-said None narrow e = ap (λ (y : ℤ). to_z w64 (of_z w64 y)) e ∙ negative-read 0 (omega arith)

-- the tables and the verdict of one load
module _ {verdict : Verdict} {parameters registers variables : List ℕ} {l : Loaded} (same : loaded verdict parameters registers variables ≡ l) where
  pub tells-loaded : {answer after : List ℕ} {number : ℕ} → ToldVerdict verdict answer after number
      → TellsLoaded l answer parameters registers variables after number
  unfolding loaded lent_as
  tells-loaded {answer} {after} {number} told =
      record {
        parameters-are = ap (λ (x : Loaded). x.tables.parameters) same;
        registers-are = ap (λ (x : Loaded). x.tables.registers) same;
        variables-are = ap (λ (x : Loaded). x.tables.variables) same;
        told = subst (λ (x : Loaded). ToldVerdict x.verdict answer after number) same told;
      }
