-- What decreases, and what the loops keep.
use lib.ListN.{length}
use Prim.Native.Nat.{◌+◌, ◌*◌}
use Rattle.validate.proofs.Walks.{Expressions}
use Rattle.validate.proofs.expressions.+check_expression_visit_expr.Given as goal

abbrev pub decreases-check_expression : goal.decreases-check_expression
decreases-check_expression l = 2 * length l.t.now

abbrev pub decreases-visit_expr : goal.decreases-visit_expr
decreases-visit_expr l = 2 * length l.t.now + 1

abbrev pub invariant-visit_expr-loop-place : goal.invariant-visit_expr-loop-place
invariant-visit_expr-loop-place l =
    Expressions l.listing l.d l.names l.t l.at l.initial.errors l.place-iterator.left.now l.place-iterator.at l.total
    l.errors
