-- What the loop keeps.
use Rattle.bind.proofs.Loops.{Starring}
use Rattle.bind.proofs.walk.first_star.Given as goal

abbrev pub invariant-loop-at : goal.invariant-loop-at
invariant-loop-at l = Starring l.args l.first l.at-iterator.left.now l.at-iterator.at
