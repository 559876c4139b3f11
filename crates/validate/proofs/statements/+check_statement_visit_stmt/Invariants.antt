-- What decreases, and what the loops keep.
use lib.ListN.{length}
use Prim.Native.Nat.{◌+◌, ◌*◌}
use Rattle.forest.specs.Forest.{forest}
use Rattle.validate.specs.Module.{f, visit_stmt}
use Rattle.validate.proofs.Walks.{Visiting}
use Rattle.validate.proofs.statements.+check_statement_visit_stmt.Given as goal

abbrev pub decreases-check_statement : goal.decreases-check_statement
decreases-check_statement l = 2 * length l.t.now

abbrev pub decreases-visit_stmt : goal.decreases-visit_stmt
decreases-visit_stmt l = 2 * length l.t.now + 1

abbrev pub invariant-visit_stmt-loop-left : goal.invariant-visit_stmt-loop-left
invariant-visit_stmt-loop-left l =
    Visiting l.listing (visit_stmt l.d l.names l.s) (f l.d l.names l.s) (visit_stmt l.d l.names l.s (forest l.at l.t))
    l.t l.initial.errors l.left l.place
    l.total l.errors

abbrev pub decreases-visit_stmt-loop-left : goal.decreases-visit_stmt-loop-left
decreases-visit_stmt-loop-left l = length l.left
