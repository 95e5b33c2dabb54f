-- Judging a variable: rules 6, 7 and 11 to 15 in the order of document 01, and the entry that it gets.
use Rattle.std.specs.Prelude.{ℕ, ◌+◌, ◌≤◌, min, ◌≡◌, Bool, ◌&&◌, ◌||◌, not, cond, List, [], ◌∷◌, eqb, leb, set, Option, None}
use Rattle.syntax.specs.declared.attribute.Behaviours.{Behaviours}
use Rattle.syntax.specs.declared.variable.Variable.{Variable}
use Rattle.syntax.specs.Variable.{VariableRead}
use Rattle.tables.specs.Tables.{count_of, variable_at, variable_part}
use Rattle.tables.specs.Scan.{Mapped}
use Rattle.tables.specs.Rules.{variable_fault}
use Rattle.rules.specs.declared.fault.Fault.{Fault}
use Rattle.rules.specs.declared.variable.Early.{Early}
use Rattle.rules.specs.Fault.{fault_if, fault_of, or_else}
use Rattle.rules.specs.Words.{word_of, written}
use Rattle.rules.specs.State.{State, unless_broken, with_variables}
use Rattle.rules.specs.Modifiers.{at_most_one}
use Rattle.rules.specs.Names.{declared_before, Fresh}
use Rattle.rules.specs.Lists.{unknown_in, pieces_of, list_for, part_words}

-- ── the entry ──

unfoldable pub flag_of : Bool → ℕ
flag_of b = cond b 1 0

-- a part is a trigger's by a bare `trigger`, or by one with the part's modifier
unfoldable pub triggers : Behaviours → ℕ → ℕ
triggers b own = flag_of (leb 1 (b.bare + own))

-- the five words before the parts: name place, name length, kind, width, volatile
unfoldable pub head_words : Variable → List ℕ
head_words d = word_of d.place ∷ word_of d.length ∷ d.kind ∷ d.width ∷ flag_of (leb 1 d.rest.behaviours.volatile) ∷ []

-- the variables with one more, whose parts are given by these lists
unfoldable pub with_variable : List ℕ → Variable → List ℕ → List ℕ → ℕ → ℕ → List ℕ
with_variable vs d first second read write =
    let v : ℕ = count_of vs in
    let b : Behaviours = d.rest.behaviours in
    let headed : List ℕ = written vs (variable_at v) (head_words d) in
    let half : List ℕ = written headed (variable_part v 0) (part_words d first second (triggers b b.read) read) in
    let whole : List ℕ = written half (variable_part v 1) (part_words d first second (triggers b b.write) write) in
    set whole 0 (word_of (v + 1))

-- ── 13 as written ──

-- `volatile` twice, or more triggers than a part may have; `read` and `write` are the lists that give the parts
unfoldable pub bad_behaviours : Behaviours → ℕ → ℕ → Bool
bad_behaviours b read write =
    leb 2 b.volatile || not (at_most_one (not (eqb read 0)) b.bare b.read) || not (at_most_one (not (eqb write 0)) b.bare b.write)

-- of two numbers of rules, 0 being none, the lower one
unfoldable pub lowest : ℕ → ℕ → ℕ
lowest a b = cond (eqb a 0) b (cond (eqb b 0) a (min a b))

-- ── the judging ──

-- what was read, as the code holds it: the variable by value, its lists lent
unfoldable pub read_of : Variable → List ℕ → List ℕ → VariableRead
read_of d first second = record { variable = d; first = first; second = second }

module _ (text : List ℕ) (s : State) (it : VariableRead) where
  -- the pieces of the two lists, as the tables hold them
  abbrev pub first_pieces : List ℕ
  first_pieces = pieces_of text s.registers it.first it.variable.count

  abbrev pub second_pieces : List ℕ
  second_pieces = pieces_of text s.registers it.second it.variable.rest.count

  -- the list that gives part p, or 0
  abbrev pub list_of : ℕ → ℕ
  list_of p = list_for s.registers it.variable first_pieces p

  -- 6; 7 at the first name in the text
  unfoldable pub name_fault : Option Fault
  name_fault =
      or_else (declared_before text s it.variable.place it.variable.length)
      (or_else (unknown_in text s.registers it.first it.variable.count)
      (unknown_in text s.registers it.second it.variable.rest.count))

  -- what breaks before there is an entry: 6, 7, then 11 by a bad pairing or by a bare list that gives neither part
  unfoldable pub early_fault : Option Fault
  early_fault = or_else name_fault (fault_if (eqb (list_of 0) 0 && eqb (list_of 1) 0) 11 it.variable.place)

  -- what the code holds of it: the same, with the lists that give the parts, and the pieces of the lists
  pub record EarlyOf (early : Early) : Type 0 where
    pub fault : early.fault ≡ early_fault
    pub read : early.read ≡ list_of 0
    pub write : early.write ≡ list_of 1
    pub firsts : early.firsts ≡ first_pieces
    pub seconds : early.seconds ≡ second_pieces

  abbrev pub variables_with : List ℕ
  variables_with = with_variable s.variables it.variable first_pieces second_pieces (list_of 0) (list_of 1)

  -- what the entry breaks, 11 to 15, and 13 as written: the lowest
  unfoldable pub late_number : ℕ
  late_number =
      lowest (variable_fault s.registers variables_with (count_of s.variables))
      (cond (bad_behaviours it.variable.rest.behaviours (list_of 0) (list_of 1)) 13 0)

  -- the entry is written, then judged
  unfoldable pub added_variable : State
  added_variable = with_variables s variables_with (fault_of late_number it.variable.place)

  -- 6, 7 and 11 by the lists, then 11 to 15
  unfoldable pub judge_variable : State
  judge_variable = unless_broken s early_fault added_variable

-- ── what the code asks for ──

-- a variable's lists are short, and its name is declared by none if it is called fresh
pub record Asked (fresh : Bool) (text : List ℕ) (s : State) (d : Variable) : Type 0 where
  pub fresh-name : Fresh fresh text s d.place d.length
  pub few : d.count ≤ 8
  pub second-few : d.rest.count ≤ 8

-- ── the maps that the code carries ──

-- those of the first n variables, where no rule is broken: nobody asks for them after a fault
abbrev pub MappedUnless : Option Fault → List ℕ → ℕ → List ℕ → List ℕ → Type 0
MappedUnless fault vs n reads writes = fault ≡ None → Mapped vs n reads writes
