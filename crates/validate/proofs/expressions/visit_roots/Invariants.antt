-- What the loop keeps.
use Rattle.validate.proofs.Walks.{Expressions}
use Rattle.validate.proofs.expressions.visit_roots.Given as goal

abbrev pub invariant-loop-place : goal.invariant-loop-place
invariant-loop-place l =
    Expressions l.listing l.d l.names l.t l.at l.initial.errors l.place-iterator.left.now l.place-iterator.at l.total
    l.errors
