-- What the code keeps beside the tables while it judges declarations: bounds of the counts, the maps of rules 14 and
-- 15, and the map of names.
use Rattle.std.specs.Prelude.{ℕ, ◌≤◌, ◌<◌, ◌^◌, ◌≡◌, Option, None, true, List, length}
use Rattle.syntax.specs.declared.variable.Variable.{Variable}
use Rattle.syntax.specs.Text.{Progress}
use Rattle.tables.specs.Every.{every}
use Rattle.tables.specs.Tables.{count_of}
use Rattle.tables.specs.Rules.{variable_shape}
use Rattle.rules.specs.declared.fault.Fault.{Fault}
use Rattle.rules.specs.State.{State}
use Rattle.rules.specs.Variable.{MappedUnless}
use Rattle.loader.specs.Known.{Known}

-- no table counts more than was read; where no rule is broken, the variables have their shape and the maps are theirs
pub record Ready (p : Progress State) (reads writes : List ℕ) : Type 0 where
  pub registers-counted : count_of p.made.registers ≤ p.registers
  pub registers-few : p.registers ≤ 64
  pub variables-counted : count_of p.made.variables ≤ p.variables
  pub variables-few : p.variables ≤ 128
  pub long : length p.made.variables ≡ 7553
  pub shaped : p.made.fault ≡ None → every (count_of p.made.variables) (variable_shape p.made.variables) ≡ true
  pub mapped : MappedUnless p.made.fault p.made.variables (count_of p.made.variables) reads writes

-- and the names that are declared have their marks
pub record Noted (text : List ℕ) (p : Progress State) (reads writes known : List ℕ) : Type 0 where
  pub ready : Ready p reads writes
  pub names : Known text p.made known

-- what judging a variable asks for, where this rule is broken so far, or none
pub record Judgeable (fault : Option Fault) (registers variables : List ℕ) (d : Variable) (reads writes : List ℕ) : Type 0 where
  pub registers-few : count_of registers ≤ 64
  pub variables-few : count_of variables < 2 ^ 15
  pub few : d.count ≤ 8
  pub second-few : d.rest.count ≤ 8
  pub shaped : fault ≡ None → every (count_of variables) (variable_shape variables) ≡ true
  pub mapped : MappedUnless fault variables (count_of variables) reads writes
