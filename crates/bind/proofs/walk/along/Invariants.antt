-- What the loop keeps.
use Rattle.bind.proofs.Loops.{Turning}
use Rattle.bind.proofs.walk.along.Given as goal

abbrev pub invariant-loop-at : goal.invariant-loop-at
invariant-loop-at l = Turning l.names l.params l.args l.first l.flat l.d l.initial.words l.words
    l.at-iterator.left.now l.at-iterator.at l.k
