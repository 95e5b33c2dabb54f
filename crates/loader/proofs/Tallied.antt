-- What a text declares, counted: the counts of its reading are those of the list, and none passes its size.
-- Assumes nothing.
use Prim.Native.Nat.{ℕ, ◌+◌, ◌≤◌}
use native.Mathlib.Omega.{arith}
use mathlib.Core.Path.{◌≡◌, refl}
use mathlib.Core.List.{List, [], ◌∷◌, ◌++◌}
use Rattle.std.specs.Prelude.{Ok}
use Rattle.syntax.specs.Step.{Step}
use Rattle.syntax.specs.Text.{Declaration, a_device, a_parameter, a_register, a_variable, Progress, moved_to, counted, listed, reading_with, reading}
use Rattle.rules.proofs.ParameterShape.{Sets}
use Rattle.loader.specs.Claim.{tally, one_parameter, one_register, one_variable}
use Rattle.loader.proofs.PieceCounts.{WellRead}
use Rattle.loader.proofs.ReadKeeps.{parameters-keep, declarations-keep}

pub tally-append : (one : Declaration → ℕ) (before after : List Declaration) → tally one (before ++ after) ≡ tally one before + tally one after
unfolding tally
tally-append one [] after = omega arith
tally-append one (d ∷ ds) after = omega (arith, tally-append one ds after)

tally-last : (one : Declaration → ℕ) (ds : List Declaration) (d : Declaration) → tally one (listed ds d) ≡ tally one ds + one d
unfolding tally listed
tally-last one ds d = omega (arith, tally-append one ds (d ∷ []))

-- a parameter and a variable as they come out of a text
unfoldable pub Entire : Declaration → Type 0
Entire (a_device d) = Unit {0}
Entire (a_parameter d) = Sets d
Entire (a_register d) = Unit {0}
Entire (a_variable d) = WellRead d.variable

unfoldable pub EachEntire : List Declaration → Type 0
EachEntire [] = Unit {0}
EachEntire (d ∷ ds) = Entire d × EachEntire ds

each_last : (ds : List Declaration) (d : Declaration) → EachEntire ds → Entire d → EachEntire (listed ds d)
unfolding EachEntire listed
each_last [] d e h = (h, tt)
each_last (x ∷ ds) d e h = (e.0, each_last ds d e.1 h)

pub each_at : (before after : List Declaration) (d : Declaration) → EachEntire (before ++ d ∷ after) → Entire d
unfolding EachEntire
each_at [] after d e = e.0
each_at (x ∷ before) after d e = each_at before after d e.1

pub each-before : (before after : List Declaration) → EachEntire (before ++ after) → EachEntire before
unfolding EachEntire
each-before [] after e = tt
each-before (x ∷ before) after e = (e.0, each-before before after e.1)

pub each_after : (before after : List Declaration) → EachEntire (before ++ after) → EachEntire after
unfolding EachEntire
each_after [] after e = e
each_after (x ∷ before) after e = each_after before after e.1

pub record Tallied (p : Progress (List Declaration)) : Type 0 where
  pub parameters : p.parameters ≡ tally one_parameter p.made
  pub registers : p.registers ≡ tally one_register p.made
  pub variables : p.variables ≡ tally one_variable p.made
  pub few-parameters : p.parameters ≤ 16
  pub few-registers : p.registers ≤ 64
  pub few-variables : p.variables ≤ 128
  pub entire : EachEntire p.made

tallied-moved : (p : Progress (List Declaration)) (s : Step) → Tallied p → Tallied (moved_to p s)
unfolding moved_to
tallied-moved p s t =
    record {
      parameters = t.parameters;
      registers = t.registers;
      variables = t.variables;
      few-parameters = t.few-parameters;
      few-registers = t.few-registers;
      few-variables = t.few-variables;
      entire = t.entire;
    }

-- one declaration more, with the counts that it brings
module _ (p : Progress (List Declaration)) (d : Declaration) (next : ℕ) (t : Tallied p) (entire : Entire d) where
  abbrev after : Progress (List Declaration)
  after = counted listed p d next

  tallied-more : after.parameters ≡ p.parameters + one_parameter d → after.registers ≡ p.registers + one_register d → after.variables ≡ p.variables + one_variable d
      → after.made ≡ listed p.made d → after.parameters ≤ 16 → after.registers ≤ 64 → after.variables ≤ 128 → Tallied after
  tallied-more a b c m x y z =
      record {
        parameters = rw m (omega (arith, a, t.parameters, tally-last one_parameter p.made d));
        registers = rw m (omega (arith, b, t.registers, tally-last one_register p.made d));
        variables = rw m (omega (arith, c, t.variables, tally-last one_variable p.made d));
        few-parameters = x;
        few-registers = y;
        few-variables = z;
        entire = rw m (each_last p.made d t.entire entire);
      }

same : (n : ℕ) → n ≡ n + 0
same n = omega arith

abbrev start : Progress (List Declaration)
start = record { parameters = 0; registers = 0; variables = 0; made = []; step = Ok 0 }

tallied-start : Tallied start
unfolding EachEntire tally
tallied-start =
    record { parameters = refl; registers = refl; variables = refl; few-parameters = omega arith; few-registers = omega arith; few-variables = omega arith; entire = tt }

pub tallied : (text : List ℕ) → Tallied (reading text)
unfolding reading reading_with counted Entire one_parameter one_register one_variable
tallied text =
    tallied-moved _ _
    (declarations-keep listed text Tallied tallied-moved
    (λ p d next few t. tallied-more p (a_register d) next t tt (same _) refl (same _) refl t.few-parameters (omega (arith, few)) t.few-variables)
    (λ p d next few read t. tallied-more p (a_variable d) next t read (same _) (same _) refl refl t.few-parameters t.few-registers (omega (arith, few)))
    _
    (parameters-keep listed text Tallied tallied-moved
    (λ p d next t. tallied-more p (a_device d) next t tt (same _) (same _) (same _) refl t.few-parameters t.few-registers t.few-variables)
    (λ p d next few sets t. tallied-more p (a_parameter d) next t sets refl (same _) (same _) refl (omega (arith, few)) t.few-registers t.few-variables)
    _ tallied-start))
