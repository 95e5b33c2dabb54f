-- Loading a text into lent tables: document 01, "Consistency rules and the desk's refusals".
use Rattle.std.specs.Prelude.{ℕ, ◌≡◌, Option, Some, None, Ok, Err, Bool, true, false, ◌&&◌, ◌||◌, not, cond, ltb, length, get_or, drop, replicate}
use mathlib.Core.List.{List, [], ◌∷◌, foldl, ◌++◌}
use Rattle.std.proofs.Math.Option as number
use Rattle.syntax.specs.Step.{Step}
use Rattle.syntax.specs.Text.{Progress, reading, remade}
use Rattle.tables.specs.Every.{first_of}
use Rattle.tables.specs.Tables.{count_of, register_at}
use Rattle.tables.specs.Rules.{covered}
use Rattle.tables.specs.View.{Tables}
use Rattle.loader.specs.Verdict.{Verdict, accepted, refused}
use Rattle.rules.specs.declared.fault.Fault.{Fault}
use Rattle.rules.specs.Fault.{no_fault}
use Rattle.rules.specs.State.{State}
use Rattle.loader.specs.Judge.{judge}

-- the answer, and what it leaves in the tables
pub record Loaded : Type 0 where
  pub verdict : Verdict
  pub tables : Tables

-- tables as the code holds them, and an answer with the tables that it leaves
unfoldable pub lent_as : List ℕ → List ℕ → List ℕ → Tables
lent_as ps rs vs = record { parameters = ps; registers = rs; variables = vs }

unfoldable pub loaded : Verdict → List ℕ → List ℕ → List ℕ → Loaded
loaded verdict ps rs vs = record { verdict = verdict; tables = lent_as ps rs vs }

unfoldable pub tables_of : State → Tables
tables_of s = lent_as s.parameters s.registers s.variables

-- tables of their stated sizes
pub record Sized (ps rs vs : List ℕ) : Type 0 where
  pub parameters : length ps ≡ 577
  pub registers : length rs ≡ 961
  pub variables : length vs ≡ 7553

-- 1: a lent table is shorter than its stated size
unfoldable pub is_short : Tables → Bool
is_short t = ltb (length t.parameters) 577 || ltb (length t.registers) 961 || ltb (length t.variables) 7553

-- 2: the text is over 8,192 bytes
unfoldable pub is_long : List ℕ → Bool
is_long text = ltb 8192 (length text)

-- nothing is declared yet: tables of their stated sizes, all zero
unfoldable pub beginning : State
beginning =
    record { place = 0; extent = 0; parameters = replicate 577 0; registers = replicate 961 0; variables = replicate 7553 0; fault = no_fault }

-- 6 to 15: what the text declares, judged in its order
unfoldable pub judged : List ℕ → Progress State
judged text = remade (foldl (judge text) beginning) (reading text)

-- 16: the first register of which a part has a dot that no variable maps in that part, or the count of registers
unfoldable pub first_uncovered : List ℕ → List ℕ → ℕ
first_uncovered rs vs = first_of (count_of rs) (λ i. not (covered rs vs (count_of vs) 0 i && covered rs vs (count_of vs) 1 i))

-- 6 to 15, then 16 at that register's name; or the counts
unfoldable pub judged_as : Option Fault → ℕ → List ℕ → List ℕ → List ℕ → Verdict
judged_as (Some fault) uncovered ps rs vs = refused fault.number fault.place
judged_as None uncovered ps rs vs =
    cond (ltb uncovered (count_of rs)) (refused 16 (get_or rs (register_at uncovered) 0)) (accepted (count_of ps) (count_of rs) (count_of vs))

-- 3 to 5 come first: only when the whole text reads, the rules
unfoldable pub once_read : Step → Verdict → Verdict
once_read (Err refusal) verdict = refused refusal.number refusal.place
once_read (Ok next) verdict = verdict

unfoldable pub verdict_of : Progress State → Verdict
verdict_of p =
    once_read p.step (judged_as p.made.fault (first_uncovered p.made.registers p.made.variables) p.made.parameters p.made.registers p.made.variables)

unfoldable pub is_accepted : Verdict → Bool
is_accepted (Ok counts) = true
is_accepted (Err r) = false

-- what the tables then hold over their stated sizes: accepting leaves what was judged, 3 to 16 leave zeros
unfoldable pub left_by : Progress State → State
left_by p = cond (is_accepted (verdict_of p)) p.made beginning

-- lent tables with that over their stated sizes; what lies past them is never touched
unfoldable pub laid_over : State → Tables → Tables
laid_over s t =
    record {
      parameters = s.parameters ++ drop 577 t.parameters;
      registers = s.registers ++ drop 961 t.registers;
      variables = s.variables ++ drop 7553 t.variables;
    }

-- LOADING. 1 and 2 touch nothing
unfoldable pub load_of : List ℕ → Tables → Loaded
load_of text t =
    cond (is_short t) (record { verdict = refused 1 0; tables = t })
    (cond (is_long text) (record { verdict = refused 2 0; tables = t })
    (record { verdict = verdict_of (judged text); tables = laid_over (left_by (judged text)) t }))

-- an answer in the words of document 01: the number and the place of a refusal, or the counts
abbrev pub refusal_of : Verdict → number.Option ℕ
refusal_of (Ok counts) = number.none
refusal_of (Err r) = number.some r.number

abbrev pub values_of : Verdict → List ℕ
values_of (Ok counts) = counts.parameters ∷ counts.registers ∷ counts.variables ∷ []
values_of (Err r) = r.number ∷ r.place ∷ []
