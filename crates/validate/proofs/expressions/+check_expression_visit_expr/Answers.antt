-- `validate::expressions::check_expression` and `visit_expr` meet their contracts: a record by itself and all below it,
-- and nodes side by side in turn. Assumes nothing.
use native.Mathlib.Omega.{arith}
use Rattle.validate.proofs.Walks.{expressions, each_start, each_on, each_long, each_end, expr_short}
use Rattle.validate.proofs.Walks.{expr_leaf, expr_on}
use Rattle.std.proofs.Common.{rules, sym}
use Rattle.validate.proofs.expressions.+check_expression_visit_expr.Goals as goal

pub check_expression-returns-then-e-le-RECORD : goal.check_expression-returns-then-e-le-RECORD
check_expression-returns-then-e-le-RECORD t c = search expr_leaf

pub check_expression-returns : goal.check_expression-returns
check_expression-returns t c = search expr_on

pub visit_expr-loop-place-init : goal.visit_expr-loop-place-init
visit_expr-loop-place-init t c =
    rw c.into_iter-place-iterator.ensures.into_iter_gives (each_start (expressions _ _) (search rules))

pub visit_expr-offset_bounds-errors-free : goal.visit_expr-offset_bounds-errors-free
visit_expr-offset_bounds-errors-free t c = omega (arith, each_long)

pub visit_expr-overflow_add-total : goal.visit_expr-overflow_add-total
visit_expr-overflow_add-total t c = let given = c.in-Some.ensures.steps in
    let here = rw (sym given.index, sym given.stretch) at c.loop-place.invariant in
    omega (arith, here, expr_short)

pub visit_expr-loop-place-preserved : goal.visit_expr-loop-place-preserved
visit_expr-loop-place-preserved t c = let given = c.in-Some.ensures.steps in
    let here = rw (sym given.index, sym given.stretch) at c.loop-place.invariant in
    search (each_on, here, given)

pub visit_expr-shape_of-errors : goal.visit_expr-shape_of-errors
visit_expr-shape_of-errors t c = search each_long

pub visit_expr-returns : goal.visit_expr-returns
visit_expr-returns t c = let ended = c.in-None.ensures.steps in search (each_end, ended)
