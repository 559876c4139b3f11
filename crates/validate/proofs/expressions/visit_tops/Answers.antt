-- `validate::expressions::visit_tops` meets its contract: the statements at the top level, in turn. Assumes nothing.
use native.Mathlib.Omega.{arith}
use Rattle.std.proofs.Common.{rules, sym}
use Rattle.validate.proofs.Walks.{expressions, each_start, each_on, each_long, each_end, expr_short}
use Rattle.validate.proofs.expressions.visit_tops.Goals as goal

pub loop-place-init : goal.loop-place-init
loop-place-init c =
    rw c.into_iter-place-iterator.ensures.into_iter_gives (each_start (expressions _ _) (search rules))

pub offset_bounds-errors-free : goal.offset_bounds-errors-free
offset_bounds-errors-free c = omega (arith, each_long)

pub overflow_add-total : goal.overflow_add-total
overflow_add-total c = let given = c.in-Some.ensures.steps in
    let here = rw (sym given.index, sym given.stretch) at c.loop-place.invariant in
    omega (arith, here, expr_short)

pub loop-place-preserved : goal.loop-place-preserved
loop-place-preserved c = let given = c.in-Some.ensures.steps in
    let here = rw (sym given.index, sym given.stretch) at c.loop-place.invariant in
    search (each_on, here, given)

pub shape_of-errors : goal.shape_of-errors
shape_of-errors c = search each_long

pub returns : goal.returns
returns c = let ended = c.in-None.ensures.steps in search (each_end, ended)
