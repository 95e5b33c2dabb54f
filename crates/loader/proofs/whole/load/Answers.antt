-- `loader::whole::load` meets its contract.
use mathlib.Core.Path.{sym, ◌∙◌}
use lib.Seq.{length-take-le}
use Rattle.loader.proofs.LoadLaws.{long-enough, sized-parts, loaded-is}
use borrow.Author.Tests.{lt-ltb}
use Rattle.loader.specs.Load.{is_long, lent_as, loaded, load_of}
use Rattle.loader.proofs.whole.load.Goals as goal

pub returns-then-is_short : goal.returns-then-is_short
unfolding load_of loaded lent_as
returns-then-is_short c = rw (sym c.is_short.ensures ∙ c.if-is_short.true)

pub returns-then-text-gt8192 : goal.returns-then-text-gt8192
unfolding load_of is_long loaded lent_as
returns-then-text-gt8192 c = rw (sym c.is_short.ensures ∙ c.if-is_short.false, lt-ltb _ _ c.if-text-gt8192.true)

pub slice_bounds-load_into-end : goal.slice_bounds-load_into-end
slice_bounds-load_into-end c = (long-enough _ _ _ c.is_short.ensures c.if-is_short.false).parameters

pub slice_bounds-load_into-end-2 : goal.slice_bounds-load_into-end-2
slice_bounds-load_into-end-2 c = sym (length-take-le 577 _ (long-enough _ _ _ c.is_short.ensures c.if-is_short.false).parameters)

pub slice_bounds-load_into-end-3 : goal.slice_bounds-load_into-end-3
slice_bounds-load_into-end-3 c = (long-enough _ _ _ c.is_short.ensures c.if-is_short.false).registers

pub slice_bounds-load_into-end-4 : goal.slice_bounds-load_into-end-4
slice_bounds-load_into-end-4 c = sym (length-take-le 961 _ (long-enough _ _ _ c.is_short.ensures c.if-is_short.false).registers)

pub slice_bounds-load_into-end-5 : goal.slice_bounds-load_into-end-5
slice_bounds-load_into-end-5 c = (long-enough _ _ _ c.is_short.ensures c.if-is_short.false).variables

pub slice_bounds-load_into-end-6 : goal.slice_bounds-load_into-end-6
slice_bounds-load_into-end-6 c = sym (length-take-le 7553 _ (long-enough _ _ _ c.is_short.ensures c.if-is_short.false).variables)

pub load_into-requires : goal.load_into-requires
load_into-requires c = sized-parts _ _ _ (long-enough _ _ _ c.is_short.ensures c.if-is_short.false)

pub returns : goal.returns
returns c = loaded-is _ _ _ _ _ _ _ c.is_short.ensures c.if-is_short.false c.if-text-gt8192.false c.load_into.ensures.answered c.load_into.ensures.left
