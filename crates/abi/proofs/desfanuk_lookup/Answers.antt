-- `abi::desfanuk_lookup` meets its contract: the loader's answer as a word, which it fits.
use Prim.Native.Nat.{ℕ}
use mathlib.Core.Path.{◌≡◌, ap, ◌∙◌, subst, sym}
use mathlib.Core.List.{List}
use lib.ListN.{get_or}
use mir.Syntax.{w32}
use mir.Val.{Fits}
use Rattle.std.proofs.Common.{Option}
use Rattle.rules.specs.Names.{variable_named}
use Rattle.abi.specs.Loading.{Narrow, found_word}
use Rattle.abi.proofs.LoadingLaws.{found-narrow, found-said}
use Rattle.abi.proofs.desfanuk_lookup.Goals as goal

-- an index found in a table of 32-bit words fits a word
narrow : (text variables name : List ℕ) → ((i : ℕ) → Fits w32 (get_or variables i 0)) → {found : Option ℕ} → found ≡ variable_named text variables name → Narrow found
narrow text variables name words e = subst Narrow (sym e) (found-narrow text variables name (words 0))

pub found_word-requires : goal.found_word-requires
found_word-requires c = narrow c.args.text.now c.args.variables.now c.args.name.now c.type_inv.variables c.lookup.ensures

pub returns : goal.returns
returns c = found-said c.lookup.result (narrow c.args.text.now c.args.variables.now c.args.name.now c.type_inv.variables c.lookup.ensures) c.found_word.ensures ∙ ap found_word c.lookup.ensures
