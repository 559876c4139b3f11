-- What the loop keeps.
use Rattle.namesakes.proofs.Loops.{Scanning}
use Rattle.namesakes.proofs.along.Given as goal

abbrev pub invariant-loop-at : goal.invariant-loop-at
invariant-loop-at l =
    Scanning l.names l.params l.args l.first l.from l.words l.initial.list l.list l.at-iterator.left.now
    l.at-iterator.at l.place l.found
