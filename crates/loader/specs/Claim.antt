-- What loading a text into lent tables answers, in the words of document 01: the published grammar, the sizes, and the
-- rules declaration by declaration.
-- `proofs/Exactly.antt` shows that `load_of` answers this and nothing else.
use Rattle.std.specs.Prelude.{ℕ, ◌+◌, ◌≤◌, ◌<◌, ◌≡◌, ◌⊎◌, Option, Some, None, Ok, Err, Bool, true, false, ◌&&◌, get_or}
use mathlib.Core.List.{List, [], ◌∷◌, ◌++◌, foldl}
use Rattle.std.proofs.Math.Option.{none}
use Rattle.syntax.specs.Step.{refused_at}
use Rattle.syntax.specs.Sizes.{passed_at}
use Rattle.syntax.specs.Claim.{InLanguage, Right}
use Rattle.syntax.specs.Text.{Declaration, a_device, a_parameter, a_register, a_variable, reading}
use Rattle.tables.specs.Tables.{count_of, register_at}
use Rattle.tables.specs.Rules.{covered}
use Rattle.tables.specs.View.{Tables}
use Rattle.rules.specs.declared.fault.Fault.{Fault}
use Rattle.rules.specs.State.{State}
use Rattle.loader.specs.Verdict.{Verdict, refused}
use Rattle.loader.specs.Judge.{judge}
use Rattle.loader.specs.Load.{beginning, laid_over, is_short, is_long}

-- ── what a text declares ──

-- the device, each parameter, each register and variable, in the text's order
unfoldable pub declared : List ℕ → List Declaration
declared text = (reading text).made

-- how many of them are so
unfoldable pub tally : (Declaration → ℕ) → List Declaration → ℕ
tally one [] = 0
tally one (d ∷ ds) = one d + tally one ds

unfoldable pub one_parameter : Declaration → ℕ
one_parameter (a_device d) = 0
one_parameter (a_parameter d) = 1
one_parameter (a_register d) = 0
one_parameter (a_variable d) = 0

unfoldable pub one_register : Declaration → ℕ
one_register (a_device d) = 0
one_register (a_parameter d) = 0
one_register (a_register d) = 1
one_register (a_variable d) = 0

unfoldable pub one_variable : Declaration → ℕ
one_variable (a_device d) = 0
one_variable (a_parameter d) = 0
one_variable (a_register d) = 0
one_variable (a_variable d) = 1

-- ── 3 to 5 ──

-- the whole text reads: it is a text of the published grammar, and no size is passed
abbrev pub Reads : List ℕ → Type 0
Reads text = InLanguage text × (passed_at text ≡ none)

-- ── 6 to 15 ──

-- the device's name and the tables after these declarations
unfoldable pub standing : List ℕ → List Declaration → State
standing text before = foldl (judge text) beginning before

-- the rule that a declaration breaks, judged after those before it, or none where it keeps all of them
unfoldable pub broken_by : List ℕ → List Declaration → Declaration → Option Fault
broken_by text before d = (judge text (standing text before) d).fault

-- every one of these declarations keeps the rules
unfoldable pub AllKeep : List ℕ → List Declaration → Type 0
AllKeep text ds = (before after : List Declaration) (d : Declaration) → ds ≡ before ++ d ∷ after → broken_by text before d ≡ None

-- the first declaration that breaks a rule of 6 to 15, and where
pub record FirstBroken (text : List ℕ) (ds : List Declaration) (number place : ℕ) : Type 0 where
  pub before : List Declaration
  pub it : Declaration
  pub after : List Declaration
  pub splits : ds ≡ before ++ it ∷ after
  pub before-keep : AllKeep text before
  pub least : 6 ≤ number
  pub most : number ≤ 15
  pub breaks : broken_by text before it ≡ Some (record { number = number; place = place })

-- ── 16 ──

-- every dot bit of register i is mapped, in each of its parts
unfoldable pub mapped : State → ℕ → Bool
mapped s i = covered s.registers s.variables (count_of s.variables) 0 i && covered s.registers s.variables (count_of s.variables) 1 i

unfoldable pub AllMapped : State → Type 0
AllMapped s = (i : ℕ) → i < count_of s.registers → mapped s i ≡ true

-- the first register that has a dot which is not; the place is its name's
pub record FirstUnmapped (s : State) (place : ℕ) : Type 0 where
  pub register : ℕ
  pub inside : register < count_of s.registers
  pub earlier : (i : ℕ) → i < register → mapped s i ≡ true
  pub unmapped : mapped s register ≡ false
  pub place_is : place ≡ get_or s.registers (register_at register) 0

-- ── the verdict ──

-- accepted: the text reads, no declaration breaks a rule, every dot is mapped; with the counts of what it declares
pub record Accepts (text : List ℕ) (parameters registers variables : ℕ) : Type 0 where
  pub reads : Reads text
  pub keeps : AllKeep text (declared text)
  pub maps : AllMapped (standing text (declared text))
  pub parameters-are : parameters ≡ tally one_parameter (declared text)
  pub registers-are : registers ≡ tally one_register (declared text)
  pub variables-are : variables ≡ tally one_variable (declared text)

-- 3 to 5: reading stops, or passes a size
pub record Unread (text : List ℕ) (number place : ℕ) : Type 0 where
  pub least : 3 ≤ number
  pub most : number ≤ 5
  pub stops : Right text (refused_at number place)

-- 6 to 15: the first declaration that breaks a rule names it
abbrev pub Breaks : List ℕ → ℕ → ℕ → Type 0
Breaks text number place = Reads text × FirstBroken text (declared text) number place

-- 16: only where all keep the rules
pub record Misses (text : List ℕ) (number place : ℕ) : Type 0 where
  pub reads : Reads text
  pub keeps : AllKeep text (declared text)
  pub is_sixteen : number ≡ 16
  pub misses : FirstUnmapped (standing text (declared text)) place

-- 3 to 16
unfoldable pub RightRead : List ℕ → Verdict → Type 0
RightRead text (Ok counts) = Accepts text counts.parameters counts.registers counts.variables
RightRead text (Err r) = Unread text r.number r.place ⊎ (Breaks text r.number r.place ⊎ Misses text r.number r.place)

-- THE CLAIM. 1 and 2 come first, by their tests.
unfoldable pub RightVerdict : List ℕ → Tables → Verdict → Type 0
RightVerdict text t v =
    ((is_short t ≡ true) × (v ≡ refused 1 0))
    ⊎ (((is_short t ≡ false) × (is_long text ≡ true) × (v ≡ refused 2 0)) ⊎ ((is_short t ≡ false) × (is_long text ≡ false) × RightRead text v))

-- WHAT IS LEFT. 1 and 2 touch nothing; 3 to 16 leave zeros over the stated sizes; accepting leaves what stands after
-- all declarations (specs/Describes.antt says what that is). What lies past the stated sizes stays.
unfoldable pub Leaves : List ℕ → Tables → Verdict → Tables → Type 0
Leaves text t (Ok counts) left = left ≡ laid_over (standing text (declared text)) t
Leaves text t (Err r) left = ((r.number ≤ 2) × (left ≡ t)) ⊎ ((3 ≤ r.number) × (left ≡ laid_over beginning t))
