-- What the loop keeps.
use Rattle.validate.proofs.Lists.{Marking}
use Rattle.validate.proofs.params.every_mark.Given as goal

abbrev pub invariant-loop-place : goal.invariant-loop-place
invariant-loop-place l =
    Marking l.listing l.mark l.at l.list l.initial.errors l.place-iterator.nodes.left.now l.place-iterator.nodes.at
    l.total l.errors
