-- `validate::params::every_mark` meets its contract: the parameters in turn. Assumes nothing.
use native.Mathlib.Omega.{arith}
use Rattle.std.proofs.Common.{rules, sym}
use Rattle.validate.proofs.Lists.{mark_start, mark_few, mark_on, mark_long, mark_end}
use Rattle.validate.proofs.params.every_mark.Goals as goal

pub loop-place-init : goal.loop-place-init
loop-place-init c = search (rules, mark_start)

pub offset_bounds-errors-free : goal.offset_bounds-errors-free
offset_bounds-errors-free c = omega (arith, mark_long)

pub overflow_add-total : goal.overflow_add-total
overflow_add-total c = omega (arith, mark_few)

pub loop-place-preserved : goal.loop-place-preserved
loop-place-preserved c = let given = c.in-Some.ensures.steps in
    let here = rw (sym given.index, sym given.stretch) at c.loop-place.invariant in
    search (mark_on, here, given)

pub shape_of-errors : goal.shape_of-errors
shape_of-errors c = search mark_long

pub returns : goal.returns
returns c = let ended = c.in-None.ensures.steps in search (mark_end, ended)
